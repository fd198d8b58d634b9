-- Which capacity suffices for a network to end, or to run forever.
use Rattle.std.specs.Prelude.{◌≡◌, ◌⊎◌, ℕ, ◌+◌, ◌<◌, ◌≤◌, List, [], length}
use Rattle.kpn_model.specs.declared.history.Entry.{Entry}
use Rattle.kpn_model.specs.declared.history.End.{End}
use Rattle.kpn_model.specs.Network.{Family, Network, resized}
use Rattle.kpn_model.specs.Semantics.{State, capacity, IsRun}
use Rattle.kpn_model.specs.History.{growths}
use Rattle.kpn_model.specs.Endings.{IsFinal, IsNatural}

abbrev pub IsBoundedBy : State → ℕ → Type 0
IsBoundedBy M b = (c : ℕ) → capacity M c ≤ b

-- some run, from some starting capacities, with or without growths, ends naturally with no capacity above b
pub record EndsWithin (kinds : Family) (net : Network) (b : ℕ) : Type 0 where
  pub sizes : ℕ → ℕ
  pub history : List Entry
  pub state : State
  pub cause : End
  pub final : IsFinal kinds (resized net sizes) history state cause
  pub natural : IsNatural cause
  pub bounded : IsBoundedBy state b

-- some run, from some starting capacities, has n deeds or more, and no capacity above b at its end
pub record LastsWithin (kinds : Family) (net : Network) (b n : ℕ) : Type 0 where
  pub sizes : ℕ → ℕ
  pub history : List Entry
  pub state : State
  pub run : IsRun kinds (resized net sizes) history state
  pub bounded : IsBoundedBy state b
  pub many : n + length (growths history) ≤ length history

-- b suffices for a run to its end, or for runs of any number of deeds
abbrev pub Suffices : Family → Network → ℕ → Type 0
Suffices kinds net b = EndsWithin kinds net b ⊎ ((n : ℕ) → LastsWithin kinds net b n)

abbrev pub OwnEndSuffices : Family → Type 0
OwnEndSuffices kinds =
    (net : Network) (E : List Entry) (M : State) (a : End) (b : ℕ)
    → IsFinal kinds net E M a → IsNatural a → IsBoundedBy M b → EndsWithin kinds net b

-- without growths, no capacity rises
abbrev pub KeepsCapacities : Family → Type 0
KeepsCapacities kinds =
    (net : Network) (sizes : ℕ → ℕ) (b : ℕ) (F : List Entry) (N : State)
    → ((c : ℕ) → c < length net.channels → sizes c ≤ b)
    → IsRun kinds (resized net sizes) F N → growths F ≡ [] → IsBoundedBy N b
