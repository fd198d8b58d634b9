-- Four false variants of the bound of the least room, for networks of the standard kinds.
use Rattle.std.specs.Prelude.{min, ◌≡◌, ◌⊎◌, ℕ, ◌+◌, ◌<◌, ◌≤◌, List}
use Rattle.kpn_model.specs.declared.history.Entry.{Entry}
use Rattle.kpn_model.specs.declared.history.Entry.TheVariants.{Did, Grew}
use Rattle.kpn_model.specs.declared.history.End.{End}
use Rattle.kpn_model.specs.Network.{Network, channel_of, resized}
use Rattle.kpn_model.specs.Semantics.{State, start, tokens, capacity, with_channel, Does, IsBlocked, IsArtificial, IsChosen, IsRun}
use Rattle.kpn_model.specs.Endings.{IsFinal, IsNatural}
use Rattle.kpn_standard.specs.Standard.{standard}
use Rattle.kpn_laws.specs.Sufficient.{Suffices}
use Rattle.test_laws.specs.ChangedRules.{RunBy}

-- if capacity b suffices, the rule grows only channels with a capacity below b
abbrev pub GrowsBelowBy : (Network → State → Entry → State → Type 0) → Type 0
GrowsBelowBy rule =
    (net : Network) (b : ℕ) → Suffices standard net b → (E : List Entry) (M N : State) (c to : ℕ)
    → RunBy (rule net) (start standard net) E M → rule net M (Grew c to) N → capacity M c < b

-- the channel of greatest capacity with a blocked writer grows; among equals the one with the lowest number
pub record GrowsGreatest (net : Network) (M : State) (c to : ℕ) (N : State) : Type 0 where
  pub artificial : IsArtificial standard net M
  pub writer : ℕ
  pub blocked : IsBlocked standard net M writer c
  pub no_greater : (q d : ℕ) → IsBlocked standard net M q d → capacity M d ≤ capacity M c
  pub no_earlier : (q d : ℕ) → IsBlocked standard net M q d → capacity M c ≡ capacity M d → c ≤ d
  pub below : capacity M c < net.ceiling
  pub to_is : to ≡ min (capacity M c + net.step) net.ceiling
  pub leaves : N ≡ with_channel M c (tokens M c) to

abbrev pub GreatestGrows : Network → State → Entry → State → Type 0
GreatestGrows net M (Did p d) N = Does standard net M p d N
GreatestGrows net M (Grew c to) N = GrowsGreatest net M c to N

-- if a run from other capacities ends naturally, the chosen channel of an artificial deadlock has less
-- capacity than at its end
abbrev pub EachBelowItsOwn : Type 0
EachBelowItsOwn =
    (net : Network) (sizes : ℕ → ℕ) (F : List Entry) (N : State) (a : End)
    → IsFinal standard (resized net sizes) F N a → IsNatural a
    → (E : List Entry) (M : State) (c : ℕ) → IsRun standard net E M → IsArtificial standard net M
    → IsChosen standard net M c → capacity M c < capacity N c

-- if capacity b suffices, each channel has its starting capacity or at most b, whatever the step
abbrev pub StaysUpTo : Type 0
StaysUpTo =
    (net : Network) (b : ℕ) → Suffices standard net b → (E : List Entry) (M : State) → IsRun standard net E M
    → (c : ℕ) → (capacity M c ≡ (channel_of net c).capacity) ⊎ (capacity M c ≤ b)
