-- Why a stream is not run, from why it is not opened or its files aren't.
use Rattle.std.proofs.Common.{inl, inr, ℕ, Bool, List, Option, Result, Ok, Err, IfErr, sym, subst}
use Rattle.kpn_model.specs.declared.kinds.Card.{Card}
use Rattle.kpn_model.specs.declared.kinds.Signature.{Signature}
use Rattle.kpn_sketch.specs.declared.sketch.Sketch.{Sketch}
use Rattle.kpn_model.specs.Network.{Family}
use Rattle.hox_args.specs.declared.arguments.StreamChoice.{StreamChoice}
use Rattle.hox_files.specs.declared.stops.Stop.{Stop}
use Rattle.hox_files.specs.declared.stops.Stop.TheVariants.{Clash, Format, InputTwice, Memory, NoPair, Refused as WasRefused, Unread as NotRead, Words}
use Rattle.hox_execute.specs.declared.streaming.StreamEnds.{StreamEnds}
use Rattle.hox_execute.specs.declared.streaming.StreamStop.{StreamStop}
use Rattle.hox_execute.specs.declared.streaming.StreamStop.TheVariants.{Asked, Headless, OutputTwice, Refused, Unopened as NotOpened, Unread, Unwritten}
use Rattle.hox_execute.specs.declared.streaming.Unopened.{Unopened}
use Rattle.hox_execute.specs.declared.streaming.Unopened.TheVariants.{Refused as IsRefused, Faulty, Memory as NoMemory}
use Rattle.hox_execute.specs.Streaming.{AreEnds, AreUnpaired, IsFaultyBetween, IsNoEnds, IsRefusedIn, IsSketchIn, IsStreamStop, IsUnfit, IsUnopened}

module _ (kinds : Family) (named : List ℕ → Option (ℕ × ℕ)) (signature : Card → Option Signature) (contents : List ℕ → Option (List ℕ)) where
  pub refused_unopened : (name : List ℕ) (ends : StreamEnds) (unopened : Unopened) → IsRefusedIn named signature contents name unopened → IsUnopened kinds named signature contents name ends unopened
  refused_unopened name ends (IsRefused refused error) h = h
  refused_unopened name ends (Faulty channels fault) (inl h) = absurd h
  refused_unopened name ends (Faulty channels fault) (inr h) = absurd h.2
  refused_unopened name ends NoMemory h = tt

  faulty : (name : List ℕ) (ends : StreamEnds) (sketch : Sketch) → IsSketchIn named signature contents name sketch → (unopened : Unopened) → IsFaultyBetween kinds named signature sketch ends unopened
      → IsUnopened kinds named signature contents name ends unopened
  faulty name ends sketch is_in (IsRefused refused error) h = absurd h
  faulty name ends sketch is_in (Faulty channels fault) h = (sketch, is_in, h)
  faulty name ends sketch is_in NoMemory h = tt

  pub faulty_unopened : {X : Type 0} (name : List ℕ) (ends : StreamEnds) (sketch : Sketch) → IsSketchIn named signature contents name sketch → (r : Result X Unopened)
      → IfErr r (IsFaultyBetween kinds named signature sketch ends) → IfErr r (IsUnopened kinds named signature contents name ends)
  faulty_unopened {X} name ends sketch is_in (Ok x) h = tt
  faulty_unopened {X} name ends sketch is_in (Err e) h = faulty name ends sketch is_in e h

  module _ (clash : List ℕ → Bool → List ℕ → Bool → Option Bool) (choice : StreamChoice) where
    pub no_ends : (stop : StreamStop) → IsNoEnds clash choice stop → IsStreamStop kinds named signature contents clash choice stop
    no_ends (Asked stop) h = h
    no_ends OutputTwice h = h
    no_ends (Refused file refused error) h = absurd h
    no_ends (NotOpened others channels fault) h = absurd h
    no_ends (Headless file fault) h = absurd h
    no_ends (Unread file error) h = absurd h
    no_ends (Unwritten file error) h = absurd h

  module _ (clash : List ℕ → Bool → List ℕ → Bool → Option Bool) (choice : StreamChoice) (ends : StreamEnds) (chosen : AreEnds clash choice ends) where
    unfit : (stop : StreamStop) → IsUnfit ends stop → IsStreamStop kinds named signature contents clash choice stop
    unfit (Asked stop) h = subst (λ (s : Stop). IsNoEnds clash choice (Asked s)) (sym h) tt
    unfit OutputTwice h = absurd h
    unfit (Refused file refused error) h = absurd h
    unfit (NotOpened others channels fault) h = absurd h
    unfit (Headless file fault) h = (ends, chosen, h)
    unfit (Unread file error) h = (ends, chosen, h)
    unfit (Unwritten file error) h = (ends, chosen, h)

    pub unfit_stops : {X : Type 0} (r : Result X StreamStop) → IfErr r (IsUnfit ends) → IfErr r (IsStreamStop kinds named signature contents clash choice)
    unfit_stops {X} (Ok x) h = tt
    unfit_stops {X} (Err stop) h = unfit stop h

-- why there are no ends, where a text names no file, or no format, or one of no use
module _ (clash : List ℕ → Bool → List ℕ → Bool → Option Bool) (choice : StreamChoice) where
  pub unpaired_ends : (stop : Stop) → AreUnpaired choice stop → IsNoEnds clash choice (Asked stop)
  unpaired_ends (NoPair option text) h = h
  unpaired_ends (Format stop) h = h
  unpaired_ends Memory h = tt
  unpaired_ends InputTwice (inl h) = absurd h
  unpaired_ends InputTwice (inr (inl h)) = absurd h
  unpaired_ends InputTwice (inr (inr h)) = absurd h.4
  unpaired_ends (Clash one other) (inl h) = absurd h
  unpaired_ends (Clash one other) (inr (inl h)) = absurd h
  unpaired_ends (Clash one other) (inr (inr h)) = absurd h.4
  unpaired_ends (NotRead file error) (inl h) = absurd h
  unpaired_ends (NotRead file error) (inr (inl h)) = absurd h
  unpaired_ends (NotRead file error) (inr (inr h)) = absurd h.4
  unpaired_ends (WasRefused refusal) (inl h) = absurd h
  unpaired_ends (WasRefused refusal) (inr (inl h)) = absurd h
  unpaired_ends (WasRefused refusal) (inr (inr h)) = absurd h.4
  unpaired_ends (Words fault) (inl h) = absurd h
  unpaired_ends (Words fault) (inr (inl h)) = absurd h
  unpaired_ends (Words fault) (inr (inr h)) = absurd h.4
