-- What comes of a choice comes of the arguments that make it.
use Rattle.std.proofs.Common.{ℕ, Bool, List, Option, Result, Ok, Err, IfOk, IfErr}
use Rattle.kpn_model.specs.declared.kinds.Card.{Card}
use Rattle.kpn_model.specs.declared.kinds.Signature.{Signature}
use Rattle.kpn_model.specs.Network.{Family}
use Rattle.hox_args.specs.declared.arguments.Choice.{Choice}
use Rattle.hox_args.specs.declared.arguments.Choice.TheVariants.{Check, Run, Draw, Stream, Kinds}
use Rattle.hox_args.specs.declared.arguments.WordsFault.{WordsFault}
use Rattle.hox_args.specs.HoxChoices.{IsHoxChoice}
use Rattle.hox_execute.specs.declared.serving.ServedCommand.{ServedCommand}
use Rattle.hox_files.specs.declared.stops.Stop.{Stop}
use Rattle.hox_files.specs.declared.stops.Stop.TheVariants.{Clash, Format, InputTwice, Memory, NoPair, Refused, Unread, Words}
use Rattle.hox_files.specs.Files.{Effect}
use Rattle.hox_execute.specs.Program.{Does, IsProgramStop, IsStopIn, Serves}

no_words : (named : List ℕ → Option (ℕ × ℕ)) (signature : Card → Option Signature) (contents : List ℕ → Option (List ℕ)) (clash : List ℕ → Bool → List ℕ → Bool → Option Bool) (choice : Choice) (fault : WordsFault) → IsStopIn named signature contents clash choice (Words fault) → ⊥
no_words named signature contents clash (Check check) fault h = h
no_words named signature contents clash (Run run) fault h = h
no_words named signature contents clash (Draw draw) fault h = h
no_words named signature contents clash (Stream stream) fault h = h
no_words named signature contents clash (Kinds kinds) fault h = h

module _ (words : List (List ℕ)) (choice : Choice) (chosen : IsHoxChoice words choice) (named : List ℕ → Option (ℕ × ℕ)) (signature : Card → Option Signature) (contents : List ℕ → Option (List ℕ)) (clash : List ℕ → Bool → List ℕ → Bool → Option Bool) where
  pub served :
      (kinds : Family) (steady : Bool) (before after : Option (List Effect)) (title : ℕ → List ℕ × ℕ) (r : Result ServedCommand Stop) → IfOk r (Does kinds named signature contents clash steady before after title choice)
      → IfOk r (Serves kinds named signature contents clash steady before after title words)
  served kinds steady before after title (Ok outcome) does = record { choice = choice; chosen = chosen; does = does }
  served kinds steady before after title (Err stop) does = tt

  stopped : (stop : Stop) → IsStopIn named signature contents clash choice stop → IsProgramStop named signature contents clash words stop
  stopped (Words fault) h = absurd (no_words named signature contents clash choice fault h)
  stopped (Refused refusal) h = (choice, chosen, h)
  stopped (NoPair option text) h = (choice, chosen, h)
  stopped InputTwice h = (choice, chosen, h)
  stopped (Format stop) h = (choice, chosen, h)
  stopped (Clash one other) h = (choice, chosen, h)
  stopped (Unread file error) h = (choice, chosen, h)
  stopped Memory h = (choice, chosen, h)

  pub all_stopped : (r : Result ServedCommand Stop) → IfErr r (IsStopIn named signature contents clash choice) → IfErr r (IsProgramStop named signature contents clash words)
  all_stopped (Ok outcome) h = tt
  all_stopped (Err stop) h = stopped stop h
