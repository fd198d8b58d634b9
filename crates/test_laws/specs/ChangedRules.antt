-- Four definitions changed, and for each a law that is false with it.
use Rattle.std.specs.Prelude.{min, ◌≡◌, ℕ, ◌+◌, ◌<◌, ◌≤◌, List, [], ◌∷◌, ◌++◌, Some}
use Rattle.kpn_model.specs.declared.token.Token.{Token}
use Rattle.kpn_model.specs.declared.kinds.Act.{Act}
use Rattle.kpn_model.specs.declared.kinds.Act.TheVariants.{Write}
use Rattle.kpn_model.specs.declared.kinds.Answer.{Answer}
use Rattle.kpn_model.specs.declared.history.Deed.{Deed}
use Rattle.kpn_model.specs.declared.history.Deed.TheVariants.{Put}
use Rattle.kpn_model.specs.declared.history.Entry.{Entry}
use Rattle.kpn_model.specs.declared.history.Entry.TheVariants.{Did, Grew}
use Rattle.kpn_model.specs.declared.history.End.{End}
use Rattle.kpn_model.specs.Network.{Network, channel_of, out_of}
use Rattle.kpn_model.specs.Semantics.{State, start, wants, tokens, capacity, with_channel, after_deed, IsDeed, Does, IsBlocked, IsArtificial, IsChosen, Grows, IsRun}
use Rattle.kpn_model.specs.Endings.{IsOver}
use Rattle.kpn_model.specs.History.{taken, digest}
use Rattle.kpn_model.specs.Moments.{IsWithin}
use Rattle.kpn_standard.specs.Standard.{standard}

-- the entries lead from M to N, each with a step of this rule
abbrev pub RunBy : (State → Entry → State → Type 0) → State → List Entry → State → Type 0
RunBy rule M [] N = N ≡ M
RunBy rule M (e ∷ es) N = (mid : State) × rule M e mid × RunBy rule mid es N

module _ (rule : Network → State → Entry → State → Type 0) where
  -- two runs by the rule that are over have one digest
  abbrev pub OneDigestBy : Type 0
  OneDigestBy =
      (net : Network) (E F : List Entry) (M N : State) (a b : End)
      → RunBy (rule net) (start standard net) E M → IsOver standard net M a
      → RunBy (rule net) (start standard net) F N → IsOver standard net N b
      → digest standard net a E M ≡ digest standard net b F N

  -- no run by the rule brings more to a channel than its capacity, unless the start does
  abbrev pub AlwaysWithinBy : Type 0
  AlwaysWithinBy =
      (net : Network)
      → IsWithin (start standard net) → (E : List Entry) (M : State) → RunBy (rule net) (start standard net) E M
      → IsWithin M

-- a growth while some process may be enabled
pub record GrowsEarly (net : Network) (M : State) (c to : ℕ) (N : State) : Type 0 where
  pub chosen : IsChosen standard net M c
  pub below : capacity M c < net.ceiling
  pub to_is : to ≡ min (capacity M c + net.step) net.ceiling
  pub leaves : N ≡ with_channel M c (tokens M c) to

abbrev pub EarlyGrowth : Network → State → Entry → State → Type 0
EarlyGrowth net M (Did p d) N = Does standard net M p d N
EarlyGrowth net M (Grew c to) N = GrowsEarly net M c to N

-- the deed of an act, if a write needs no room
abbrev pub IsDeedAnyway : Network → State → ℕ → Act → Deed → Type 0
IsDeedAnyway net M p (Write k w) (Put c t) = (out_of net p k ≡ Some c) × (t ≡ w)
IsDeedAnyway net M p a d = IsDeed standard net M p a d

pub record DoesAnyway (net : Network) (M : State) (p : ℕ) (d : Deed) (N : State) : Type 0 where
  pub answer : Answer
  pub wanted : wants standard net M p ≡ Some answer
  pub is_deed : IsDeedAnyway net M p answer.act d
  pub leaves : N ≡ after_deed standard net M p answer.next d

abbrev pub PutIntoFull : Network → State → Entry → State → Type 0
PutIntoFull net M (Did p d) N = DoesAnyway net M p d N
PutIntoFull net M (Grew c to) N = Grows standard net M c to N

-- any channel of least capacity with a blocked writer grows
pub record GrowsAnyLeast (net : Network) (M : State) (c to : ℕ) (N : State) : Type 0 where
  pub artificial : IsArtificial standard net M
  pub writer : ℕ
  pub blocked : IsBlocked standard net M writer c
  pub no_smaller : (q d : ℕ) → IsBlocked standard net M q d → capacity M c ≤ capacity M d
  pub below : capacity M c < net.ceiling
  pub to_is : to ≡ min (capacity M c + net.step) net.ceiling
  pub leaves : N ≡ with_channel M c (tokens M c) to

abbrev pub AnyOfEqual : Network → State → Entry → State → Type 0
AnyOfEqual net M (Did p d) N = Does standard net M p d N
AnyOfEqual net M (Grew c to) N = GrowsAnyLeast net M c to N

-- c's start tokens and the tokens taken from it, not those put on it
abbrev pub stream_taken : Network → List Entry → ℕ → List Token
stream_taken net E c = (channel_of net c).tokens ++ taken E c

-- such a stream is the tokens taken, then those the channel holds
abbrev pub TakenTells : Type 0
TakenTells =
    (net : Network) (E : List Entry) (M : State)
    → IsRun standard net E M → (c : ℕ) → stream_taken net E c ≡ taken E c ++ tokens M c
