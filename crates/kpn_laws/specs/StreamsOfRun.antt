-- The streams of one run of one network (Kahn 1974).
use Rattle.std.specs.Prelude.{ℕ, List}
use Rattle.kpn_model.specs.declared.history.Entry.{Entry}
use Rattle.kpn_model.specs.declared.history.End.{End}
use Rattle.kpn_model.specs.Network.{Family, Network, resized}
use Rattle.kpn_model.specs.Semantics.{State, IsRun}
use Rattle.kpn_model.specs.Endings.{IsOver, IsNatural, IsFinal}
use Rattle.kpn_model.specs.History.{stream}
use Rattle.kpn_laws.specs.Alone.{Streams, BeginsWith}
use Rattle.kpn_laws.specs.Equations.{streams_of, Obeys, IsLeastSolution}

-- every solution begins with the run's streams; those of a natural end, from any capacities, are the least
pub record ApproachLeastSolution (kinds : Family) (net : Network) (E : List Entry) (M : State) : Type 0 where
  pub below : (T : Streams) → Obeys kinds net T → (c : ℕ) → BeginsWith (T c) (stream net E c)
  pub least : (a : End) → IsOver kinds net M a → IsNatural a → IsLeastSolution kinds net (streams_of net E)
  pub from_any :
      (sizes : ℕ → ℕ) (F : List Entry) (N : State) (a : End) → IsFinal kinds (resized net sizes) F N a → IsNatural a
      → IsLeastSolution kinds net (streams_of net F)

abbrev pub EachApproachesLeastSolution : Family → Type 0
EachApproachesLeastSolution kinds =
    (net : Network) (E : List Entry) (M : State)
    → IsRun kinds net E M → ApproachLeastSolution kinds net E M
