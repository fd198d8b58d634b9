-- What may be done with an answer to a coherent core, and what comes of it.
use Rattle.std.specs.Prelude.{◌≡◌, ◌↔◌, ◌<◌, ◌≤◌, ◌+◌, ℕ, Bool, true, false, List, Option, Some, None, length, set}
use Rattle.std.specs.List.{list_any}
use Rattle.kpn_model.specs.declared.kinds.Answer.{Answer}
use Rattle.kpn_model.specs.Network.{Family, Network, Admits}
use Rattle.kpn_model.specs.declared.history.Deed.{Deed}
use Rattle.kpn_model.specs.declared.history.Entry.TheVariants.{Did}
use Rattle.kpn_model.specs.declared.history.End.{End}
use Rattle.kpn_model.specs.Semantics.{wants, IsDeed, IsPossible, after_deed}
use Rattle.kpn_state.specs.StateAndHistory.{more}
use Rattle.kpn_state.specs.declared.standing.Standing.{Standing}
use Rattle.kpn_state.specs.declared.standing.Standing.TheVariants.{Ready, Parked}
use Rattle.kpn_state.specs.Standings.{standing, is_busy, standing_after, StandingsFit, partner}
use Rattle.kpn_commit.specs.declared.cores.Core.{Core}
use Rattle.kpn_commit.specs.declared.react.Reaction.{Reaction}
use Rattle.kpn_commit.specs.declared.resolution.Resolution.{Resolution}
use Rattle.kpn_commit.specs.declared.outcome.Outcome.{Outcome}
use Rattle.kpn_commit.specs.Coherent.{IsCoherent, IsCoherentBut}
use Rattle.kpn_commit.specs.Waiting.{AreWaiting}
use Rattle.kpn_commit.specs.Reactions.{Reacts, CannotGoOn}
use Rattle.kpn_commit.specs.Resolving.{Resolves}
use Rattle.kpn_commit.specs.Works.{Works}

abbrev pub made_ready : {H : Type 0} → Core H → ℕ → Core H
made_ready core p = record core { standings = set core.standings p Ready }

-- p stands as it stood, in as many standings
pub record KeepsStanding (standings moved : List Standing) (p : ℕ) : Type 0 where
  pub stays : standing moved p ≡ standing standings p
  pub many : length moved ≡ length standings

module _ {H : Type 0} (kinds : Family) (net : Network) where
  -- p can't read or write as this answer says
  abbrev pub CannotDo : Core H → ℕ → Answer → Type 0
  CannotDo core p a = IsPossible kinds net core.store.state p a.act → ⊥

  -- p is not parked, or can't do what it answered
  abbrev pub CannotResume : Core H → ℕ → Type 0
  CannotResume core p = (a : Answer) → standing core.standings p ≡ Parked a → CannotDo core p a

  -- p can't go on as it answered, if the budget has room for three more entries
  abbrev pub CannotGoOnInBudget : Core H → ℕ → Answer → Type 0
  CannotGoOnInBudget core p a = length core.store.history + 2 < net.budget → CannotGoOn kinds net core.store.state p a

  -- the answer is worked on, with p then made ready, and the run has not ended
  abbrev pub WorksOnReady : Core H → ℕ → Answer → Core H → Outcome → Type 0
  WorksOnReady core p a moved outcome =
      Works kinds net core.store core.standings p a outcome moved.store (set moved.standings p Ready) None

  -- the run of the core goes on or ends as it must
  abbrev pub ResolvesCore : Core H → Resolution → Core H → Type 0
  ResolvesCore core resolution moved =
      Resolves kinds net core.store core.standings resolution moved.store moved.standings

module _ {H : Type 0} (kinds : Family) (admits : Admits) (net : Network) where
  -- p, ready or out, has answered what it wants, and there is room for this many entries
  pub record HasAnswered (core : Core H) (p : ℕ) (a : Answer) (entries : ℕ) : Type 0 where
    pub coherent : IsCoherent kinds admits net core
    pub process : p < length core.standings
    pub wants : wants kinds net core.store.state p ≡ Some a
    pub busy : is_busy (standing core.standings p) ≡ true
    pub room : length core.store.history + entries ≤ core.store.limit

  -- p, which is ready, has answered what it wants, and there is room for two entries
  pub record HasAnsweredInPlace (core : Core H) (p : ℕ) (a : Answer) : Type 0 where
    pub coherent : IsCoherent kinds admits net core
    pub wants : wants kinds net core.store.state p ≡ Some a
    pub ready : standing core.standings p ≡ Ready
    pub room : length core.store.history + 2 ≤ core.store.limit

  -- the answer has its effect, and no parked process can continue
  pub record ReactsTo (core : Core H) (p : ℕ) (a : Answer) (reaction : Reaction) (moved : Core H) : Type 0 where
    pub reacts : Reacts kinds net core.store core.standings p a reaction moved.store moved.standings
    pub coherent : IsCoherent kinds admits net moved

  -- the answer has its effect, with p then made ready
  abbrev pub ReactsOn : Core H → ℕ → Answer → Core H → Reaction → Type 0
  ReactsOn core p a moved reaction = ReactsTo core p a reaction (made_ready moved p)

  -- the answer, given in place, has its effect, and is_ready says whether p is ready still
  pub record ReactsInPlace (core : Core H) (p : ℕ) (a : Answer) (is_ready : Bool) (moved : Core H) : Type 0 where
    pub reacts : (r : Reaction) × Reacts kinds net core.store core.standings p a r moved.store moved.standings
    pub ready : is_ready ≡ true ↔ standing moved.standings p ≡ Ready
    pub coherent : IsCoherent kinds admits net moved

  module _ (core : Core H) (p : ℕ) (a : Answer) where
    -- the answer is worked on, and no parked process can continue
    pub record WorksTo (outcome : Outcome) (end : Option End) (moved : Core H) : Type 0 where
      pub works : Works kinds net core.store core.standings p a outcome moved.store moved.standings end
      pub coherent : IsCoherent kinds admits net moved

  -- there is room for one entry, and no other parked process than p can continue
  pub record MayResume (core : Core H) (p : ℕ) : Type 0 where
    pub coherent : IsCoherentBut kinds admits net (Some p) core
    pub room : length core.store.history < core.store.limit

  -- p, which was parked, does what it answered, and waits no more
  pub record Resumes (core : Core H) (p : ℕ) (moved : Core H) : Type 0 where
    pub wanted : Answer
    pub parked : standing core.standings p ≡ Parked wanted
    pub deed : Deed
    pub is_deed : IsDeed kinds net core.store.state p wanted.act deed
    pub entry : moved.store ≡ more core.store (after_deed kinds net core.store.state p wanted.next deed) (Did p deed)
    pub moves : moved.standings ≡ set core.standings p (standing_after deed)
    pub keeps : StandingsFit kinds admits net (partner net deed) moved.store.state moved.standings
    pub waiting : AreWaiting net moved.store.state moved.standings moved.waiting

  -- no process is ready or out, and there is room for a growth and a put
  pub record IsIdle (core : Core H) : Type 0 where
    pub coherent : IsCoherent kinds admits net core
    pub idle : list_any is_busy core.standings ≡ false
    pub room : length core.store.history + 2 ≤ core.store.limit

  -- the run goes on or ends as it must, and no parked process can continue
  pub record ResolvesTo (core : Core H) (resolution : Resolution) (moved : Core H) : Type 0 where
    pub resolves : Resolves kinds net core.store core.standings resolution moved.store moved.standings
    pub coherent : IsCoherent kinds admits net moved
