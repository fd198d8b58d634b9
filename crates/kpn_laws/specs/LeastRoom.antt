-- Growing the smallest full channel takes, but for the step, the least room (Parks 1995).
use Rattle.std.specs.Prelude.{◌≡◌, ◌⊎◌, ℕ, ◌+◌, ◌*◌, ◌<◌, ◌≤◌, List, ◌∷◌, ◌++◌, length}
use Rattle.kpn_model.specs.declared.history.Entry.{Entry}
use Rattle.kpn_model.specs.declared.history.Entry.TheVariants.{Grew}
use Rattle.kpn_model.specs.declared.history.End.TheVariants.{Ceiling}
use Rattle.kpn_model.specs.Network.{Family, Network, channel_of, resized}
use Rattle.kpn_model.specs.Semantics.{State, start, capacity, IsArtificial, IsChosen, IsRun}
use Rattle.kpn_model.specs.History.{deeds, growths, grown, IsPrefixOf}
use Rattle.kpn_model.specs.Endings.{IsFinal}
use Rattle.kpn_laws.specs.Sufficient.{IsBoundedBy, Suffices}

-- each process does in F at most what it does in E, so F has no more entries, growths aside
pub record IsDominated (F E : List Entry) : Type 0 where
  pub deeds : (p : ℕ) → IsPrefixOf (deeds F p) (deeds E p)
  pub entries : length F + length (growths E) ≤ length E + length (growths F)

-- E dominates each F without a capacity above that of E's chosen channel
abbrev pub Dominates : Family → Type 0
Dominates kinds =
    (net : Network) (sizes : ℕ → ℕ) (E F : List Entry) (M N : State) (c : ℕ)
    → IsRun kinds net E M → IsArtificial kinds net M → IsChosen kinds net M c
    → IsRun kinds (resized net sizes) F N → IsBoundedBy N (capacity M c) → IsDominated F E

module _ (kinds : Family) where
  abbrev pub ChosenHasFewer : Type 0
  ChosenHasFewer =
      (net : Network) (b : ℕ) → Suffices kinds net b → (E : List Entry) (M : State) (c : ℕ)
      → IsRun kinds net E M → IsArtificial kinds net M → IsChosen kinds net M c → capacity M c < b

  -- from below b to below b plus a step
  abbrev pub GrowsBelow : Type 0
  GrowsBelow =
      (net : Network) (b : ℕ) → Suffices kinds net b → (E F : List Entry) (N : State) (c to : ℕ)
      → IsRun kinds net (E ++ Grew c to ∷ F) N
      → (grown (channel_of net c).capacity (growths E) c < b) × (to < b + net.step)

  -- its starting capacity, or one below b plus a step
  abbrev pub StaysBelow : Type 0
  StaysBelow =
      (net : Network) (b : ℕ) → Suffices kinds net b → (E : List Entry) (M : State) → IsRun kinds net E M
      → (c : ℕ) → (capacity M c ≡ (channel_of net c).capacity) ⊎ (capacity M c < b + net.step)

  -- no capacity above b, if none is at the start
  abbrev pub LeastPossible : Type 0
  LeastPossible =
      (net : Network) (b : ℕ)
      → Suffices kinds net b → net.step ≡ 1 → IsBoundedBy (start kinds net) b → (E : List Entry) (M : State)
      → IsRun kinds net E M
      → IsBoundedBy M b

  abbrev pub FewGrowths : Type 0
  FewGrowths =
      (net : Network) (b : ℕ) → Suffices kinds net b → 0 < net.step → (E : List Entry) (M : State) → IsRun kinds net E M
      → length (growths E) ≤ length net.channels * b

  abbrev pub CeilingSuffices : Type 0
  CeilingSuffices =
      (net : Network) (b : ℕ)
      → Suffices kinds net b → b ≤ net.ceiling → (E : List Entry) (M : State) → IsFinal kinds net E M Ceiling → ⊥
