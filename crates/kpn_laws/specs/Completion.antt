-- A run ends, or continues forever, if the network can do so in bounded room.
use Rattle.std.specs.Prelude.{◌⊎◌, ℕ, ◌+◌, ◌*◌, ◌<◌, ◌≤◌, List, length}
use Rattle.kpn_model.specs.declared.history.Entry.{Entry}
use Rattle.kpn_model.specs.declared.history.End.{End}
use Rattle.kpn_model.specs.Network.{Family, Network}
use Rattle.kpn_model.specs.Semantics.{State, capacity, IsArtificial, IsChosen, Transition, Run, IsRun}
use Rattle.kpn_model.specs.Endings.{IsNatural, IsOver}
use Rattle.kpn_laws.specs.Sufficient.{EndsWithin, LastsWithin}

abbrev pub CanGoOn : Family → Network → State → Type 0
CanGoOn kinds net M = (e : Entry) × ((N : State) × Transition kinds net M e N)

abbrev pub IsAtOwnEnd : Family → Network → State → Type 0
IsAtOwnEnd kinds net M = (a : End) × IsNatural a × IsOver kinds net M a

pub record IsAbove (kinds : Family) (net : Network) (M : State) : Type 0 where
  pub artificial : IsArtificial kinds net M
  pub channel : ℕ
  pub chosen : IsChosen kinds net M channel
  pub above : net.ceiling < capacity M channel

abbrev pub CanAlwaysGoOn : Family → Type 0
CanAlwaysGoOn kinds =
    (net : Network) (M : State)
    → CanGoOn kinds net M ⊎ (((a : End) × IsOver kinds net M a) ⊎ IsAbove kinds net M)

module _ (kinds : Family) where
  -- at most the entries of some run within b to its end, plus b for each channel
  abbrev pub FewEntries : Type 0
  FewEntries =
      (net : Network) (b : ℕ) (s : EndsWithin kinds net b)
      → 0 < net.step → (E : List Entry) (M : State) → IsRun kinds net E M
      → length E ≤ length s.history + length net.channels * b

  -- if b is within the ceiling, each run can continue until a natural end
  abbrev pub Completes : Type 0
  Completes =
      (net : Network) (b : ℕ)
      → EndsWithin kinds net b → b ≤ net.ceiling → (E : List Entry) (M : State) → IsRun kinds net E M
      → CanGoOn kinds net M ⊎ IsAtOwnEnd kinds net M

  -- so each run has a continuation to such an end
  abbrev pub HasEnd : Type 0
  HasEnd =
      (net : Network) (b : ℕ)
      → EndsWithin kinds net b → b ≤ net.ceiling → 0 < net.step → (E : List Entry) (M : State) → IsRun kinds net E M
      → (F : List Entry) × ((N : State) × Run kinds net M F N × IsAtOwnEnd kinds net N)

  -- if capacity b suffices for any number of deeds, and b is within the ceiling, no run ends
  abbrev pub NeverEnds : Type 0
  NeverEnds =
      (net : Network) (b : ℕ)
      → ((n : ℕ) → LastsWithin kinds net b n) → b ≤ net.ceiling → (E : List Entry) (M : State) → IsRun kinds net E M
      → CanGoOn kinds net M
