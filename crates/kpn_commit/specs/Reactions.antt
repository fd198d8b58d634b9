-- The effect of a process's answer on the network.
use Rattle.std.specs.Prelude.{◌≡◌, ◌≢◌, ◌<◌, ℕ, List, Option, Some, length, set}
use Rattle.kpn_model.specs.declared.token.Token.{Token}
use Rattle.kpn_model.specs.declared.kinds.Card.{Card}
use Rattle.kpn_model.specs.declared.kinds.Kinds.{Ghosts as KindsOf}
use Rattle.kpn_model.specs.declared.kinds.Act.TheVariants.{Stop}
use Rattle.kpn_model.specs.declared.kinds.Answer.{Answer}
use Rattle.kpn_model.specs.declared.history.Deed.{Deed}
use Rattle.kpn_model.specs.declared.history.Entry.TheVariants.{Did}
use Rattle.kpn_model.specs.Network.{Family, Network, Admits}
use Rattle.kpn_model.specs.Families.{family}
use Rattle.kpn_model.specs.Lawful.{NamesPort, LeadsOn}
use Rattle.kpn_model.specs.Semantics.{State, IsPossible, IsEnabled, Does, IsDeed, wants, after_deed}
use Rattle.kpn_state.specs.StateAndHistory.{StateAndHistory, more}
use Rattle.kpn_state.specs.declared.standing.Standing.{Standing}
use Rattle.kpn_state.specs.declared.standing.Standing.TheVariants.{Ready, Parked}
use Rattle.kpn_commit.specs.declared.react.Reaction.{Reaction}
use Rattle.kpn_commit.specs.declared.react.Reaction.TheVariants.{Waits, Acts, HandsOn}
use Rattle.kpn_state.specs.Standings.{standing, standing_after, StandingsFit, partner, HasChannel}

-- each answer of the card names a port of it
abbrev pub AnswersNamePorts : {X : Type 0} → KindsOf X → Card → Type 0
AnswersNamePorts kinds card =
    (local : List ℕ) (last : Option Token)
    → kinds.admits card local last → NamesPort kinds.signature card (kinds.answer_of card local last).act

-- what follows an answer of the card is admitted; after a read, with any token
abbrev pub AnswersLeadOn : {X : Type 0} → KindsOf X → Card → Type 0
AnswersLeadOn kinds card =
    (local : List ℕ) (last : Option Token) (token : Token) → kinds.admits card local last
    → LeadsOn kinds.signature kinds.admits card (kinds.answer_of card local last) token

-- a process of a network that the state fits, and room for one more entry
pub record HasRoomToAct (net : Network) (s : StateAndHistory) (p : ℕ) : Type 0 where
  pub process : p < length s.state.processes
  pub processes : length s.state.processes ≡ length net.processes
  pub channels : length s.state.channels ≡ length net.channels
  pub room : length s.history < s.limit

module _ (kinds : Family) (admits : Admits) (net : Network) where
  -- p wants what it answered, no other parked process can continue, and there is room for one more entry
  pub record WantsToAct (s : StateAndHistory) (standings : List Standing) (p : ℕ) (a : Answer) : Type 0 where
    pub keeps : StandingsFit kinds admits net (Some p) s.state standings
    pub process : p < length standings
    pub wants : wants kinds net s.state p ≡ Some a
    pub room : length s.history < s.limit

  -- the standings fit the state, but the process at the other end of the deed's channel may be able to continue
  abbrev pub FitButPartner : State → List Standing → Deed → Type 0
  FitButPartner M standings d = StandingsFit kinds admits net (partner net d) M standings

  module _ (s : StateAndHistory) (standings : List Standing) where
    -- p reads or writes as it answered, and would then be ready
    pub record ActsOn (p : ℕ) (a : Answer) (d : Deed) (t : StateAndHistory) : Type 0 where
      pub is_deed : IsDeed kinds net s.state p a.act d
      pub entry : t ≡ more s (after_deed kinds net s.state p a.next d) (Did p d)
      pub ready : standing_after d ≡ Ready
      pub channel : HasChannel net d
      pub keeps : StandingsFit kinds admits net (partner net d) t.state (set standings p (standing_after d))

module _ {X : Type 0} (kinds : KindsOf X) (net : Network) where
  -- p has acted by this deed
  abbrev pub HasActed : StateAndHistory → List Standing → ℕ → Answer → StateAndHistory → Deed → Type 0
  HasActed s standings p a t d = ActsOn (family kinds) kinds.admits net s standings p a d t

module _ (kinds : Family) (net : Network) where
  -- the deed, of p with this answer, has its effect and its entry
  abbrev pub IsEntered : StateAndHistory → ℕ → Answer → StateAndHistory → Deed → Type 0
  IsEntered s p a t d = t ≡ more s (after_deed kinds net s.state p a.next d) (Did p d)

  -- p reads or writes as it answered, and the deed is entered
  pub record EntersDeed (s : StateAndHistory) (p : ℕ) (a : Answer) (d : Deed) (t : StateAndHistory) : Type 0 where
    pub is_deed : IsDeed kinds net s.state p a.act d
    pub entry : t ≡ more s (after_deed kinds net s.state p a.next d) (Did p d)
    pub ready : standing_after d ≡ Ready

  -- the answer is a stop, or p can't do it
  abbrev pub CannotGoOn : State → ℕ → Answer → Type 0
  CannotGoOn M p a = a.act ≢ Stop → IsPossible kinds net M p a.act → ⊥

  -- p can't go on as it answered, and nothing changes
  pub record IsLeft (s : StateAndHistory) (p : ℕ) (a : Answer) (t : StateAndHistory) : Type 0 where
    pub cannot : CannotGoOn s.state p a
    pub same : t ≡ s

  module _ (s : StateAndHistory) (standings : List Standing) where
    pub record Acted (p : ℕ) (d : Deed) (t : StateAndHistory) (moved : List Standing) : Type 0 where
      pub does : Does kinds net s.state p d t.state
      pub entry : t ≡ more s t.state (Did p d)
      pub moves : moved ≡ set standings p (standing_after d)

  module _ (s : StateAndHistory) (standings : List Standing) where
    -- p does what it wants, then the parked process at the other end of the channel does
    pub record Handed (p : ℕ) (t : StateAndHistory) (moved : List Standing) : Type 0 where
      pub deed : Deed
      pub between : StateAndHistory
      pub standings_between : List Standing
      pub first : Acted s standings p deed between standings_between
      pub other : ℕ
      pub wanted : Answer
      pub at_other_end : partner net deed ≡ Some other
      pub parked : standing standings_between other ≡ Parked wanted
      pub handed : Deed
      pub second : Acted between standings_between other handed t moved

  -- p can't do what it wants
  abbrev pub IsDisabled : State → ℕ → Type 0
  IsDisabled M p = IsEnabled kinds net M p → ⊥

  -- p answered a, and is parked as it can't do it; or does it; or does it and the partner continues too
  abbrev pub Reacts : StateAndHistory → List Standing → ℕ → Answer → Reaction → StateAndHistory → List Standing → Type 0
  Reacts s standings p a Waits t moved = IsDisabled s.state p × (t ≡ s) × (moved ≡ set standings p (Parked a))
  Reacts s standings p a Acts t moved = (d : Deed) × Acted s standings p d t moved
  Reacts s standings p a HandsOn t moved = Handed s standings p t moved
