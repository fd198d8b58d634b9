-- The room and the length of one run of one network.
use Rattle.std.specs.Prelude.{◌≡◌, ◌⊎◌, ℕ, ◌+◌, ◌*◌, ◌<◌, ◌≤◌, List, ◌∷◌, ◌++◌, length}
use Rattle.kpn_model.specs.declared.history.Entry.{Entry}
use Rattle.kpn_model.specs.declared.history.Entry.TheVariants.{Grew}
use Rattle.kpn_model.specs.declared.history.End.TheVariants.{Ceiling}
use Rattle.kpn_model.specs.Network.{Family, Network, channel_of}
use Rattle.kpn_model.specs.Semantics.{State, capacity, IsRun}
use Rattle.kpn_model.specs.Endings.{IsOver}
use Rattle.kpn_model.specs.History.{growths, grown}
use Rattle.kpn_laws.specs.Sufficient.{EndsWithin, Suffices}

-- but for the step, the run E to M takes at most capacity b for each channel
pub record TakesAtMost (kinds : Family) (net : Network) (E : List Entry) (M : State) (b : ℕ) : Type 0 where
  pub growths_below : (F G : List Entry) (c to : ℕ) → E ≡ F ++ Grew c to ∷ G
      → (grown (channel_of net c).capacity (growths F) c < b) × (to < b + net.step)
  pub capacities_below : (c : ℕ) → (capacity M c ≡ (channel_of net c).capacity) ⊎ (capacity M c < b + net.step)
  pub few_growths : 0 < net.step → length (growths E) ≤ length net.channels * b
  pub below_ceiling : b ≤ net.ceiling → IsOver kinds net M Ceiling → ⊥

-- at most any capacity that suffices, and the entries of any run to its end within b plus b for each channel
pub record TakesLeastRoom (kinds : Family) (net : Network) (E : List Entry) (M : State) : Type 0 where
  pub within : (b : ℕ) → Suffices kinds net b → TakesAtMost kinds net E M b
  pub few_entries : (b : ℕ) (s : EndsWithin kinds net b) → 0 < net.step
      → length E ≤ length s.history + length net.channels * b

abbrev pub EachTakesLeastRoom : Family → Type 0
EachTakesLeastRoom kinds =
    (net : Network) (E : List Entry) (M : State)
    → IsRun kinds net E M → TakesLeastRoom kinds net E M
