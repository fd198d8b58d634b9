-- Where there is no request, a command is not carried out.
use Rattle.std.proofs.Common.{ℕ, Bool, List, Option}
use Rattle.kpn_model.specs.declared.kinds.Card.{Card}
use Rattle.kpn_model.specs.declared.kinds.Signature.{Signature}
use Rattle.hox_files.specs.declared.stops.Stop.{Stop}
use Rattle.hox_files.specs.declared.stops.Stop.TheVariants.{Clash, Format, InputTwice, Memory, NoPair, Refused, Unread, Words}
use Rattle.hox_files.specs.Requests.{IsUnasked, Want}
use Rattle.hox_execute.specs.Commands.{IsStop}

module _ (named : List ℕ → Option (ℕ × ℕ)) (signature : Card → Option Signature) (contents : List ℕ → Option (List ℕ)) (clash : List ℕ → Bool → List ℕ → Bool → Option Bool) (want : Want) (tokens outputs : List (List ℕ)) where
  pub stops_unasked : (stop : Stop) → IsUnasked contents clash want tokens outputs stop → IsStop named signature contents clash want tokens outputs stop
  stops_unasked (NoPair option text) h = h
  stops_unasked (Format stop) h = h
  stops_unasked InputTwice h = h
  stops_unasked (Clash one other) h = h
  stops_unasked (Unread file error) h = h
  stops_unasked Memory h = tt
  stops_unasked (Refused refusal) h = absurd h
  stops_unasked (Words fault) h = absurd h
