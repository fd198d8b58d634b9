-- The machine as contracts see it.
use Rattle.std.specs.Prelude.{◌≡◌, ◌≢◌, ℕ, ◌+◌, ◌<◌, ◌≤◌, true, false, List, [], Option, Some, None, length, get_or, set}
use Rattle.std.specs.List.{list_any, list_all, sum_by}
use Rattle.kpn_model.specs.declared.kinds.Card.{Card}
use Rattle.kpn_model.specs.declared.history.Status.TheVariants.{Done, Live}
use Rattle.kpn_model.specs.declared.history.Entry.{Entry}
use Rattle.kpn_model.specs.declared.history.End.{End}
use Rattle.kpn_model.specs.declared.history.End.TheVariants.{Budget}
use Rattle.kpn_model.specs.Network.{Family, Network, card_of, Admits}
use Rattle.kpn_model.specs.Semantics.{State, status, wants, IsEnabled, IsRun}
use Rattle.kpn_model.specs.Endings.{MayStand}
use Rattle.kpn_model.specs.Moments.{IsWithin, AtEachMoment}
use Rattle.kpn_model.specs.Valid.{IsWellTyped}
use Rattle.kpn_body.specs.Input.{Input}
use Rattle.kpn_state.specs.StateAndHistory.{StateAndHistory, state_and_history}
use Rattle.kpn_state.specs.declared.standing.Standing.{Standing}
use Rattle.kpn_state.specs.declared.standing.Standing.TheVariants.{Ready, Out, Parked, Stopped}
use Rattle.kpn_commit.specs.declared.cores.Core.{Core}
use Rattle.kpn_state.specs.Standings.{standing, is_busy, is_ready, parked_answer, StandingsFit}

-- `end` says how the run ended, `commits` how many answers were taken
pub record MachineView : Type 0 where
  pub network : Network
  pub state : State
  pub history : List Entry
  pub standings : List Standing
  pub end : Option End
  pub commits : ℕ

abbrev pub machine_view : Network → State → List Entry → List Standing → Option End → ℕ → MachineView
machine_view net M E standings end commits =
    record {
      network = net;
      state = M;
      history = E;
      standings = standings;
      end = end;
      commits = commits;
    }

-- the state and the history are those of the store
abbrev pub stored_view : Network → StateAndHistory → List Standing → Option End → ℕ → MachineView
stored_view net s standings end commits = machine_view net s.state s.history standings end commits

-- with room for two entries more than the budget
abbrev pub state_and_history_of : MachineView → StateAndHistory
state_and_history_of s = state_and_history s.state s.history (s.network.budget + 2)

-- the process is out, with the input's card, local state and last token
pub record IsOutAt (net : Network) (M : State) (standings : List Standing) (i : Input) : Type 0 where
  pub out : standing standings i.process ≡ Out
  pub card : card_of net i.process ≡ i.card
  pub live : status M i.process ≡ Live i.local i.last

-- of this core, the process is out, with what the input says
abbrev pub IsOutIn : {H : Type 0} → Network → Core H → Input → Type 0
IsOutIn net core i = IsOutAt net core.store.state core.standings i

abbrev pub IsOut : MachineView → Input → Type 0
IsOut s i = IsOutAt s.network s.state s.standings i

-- p of a well-typed state has not stopped, and its body is in its slot
pub record MayGoOut (admits : Admits) (net : Network) (M : State) (bodies : List (Option Card)) (p : ℕ) : Type 0 where
  pub process : p < length M.processes
  pub live : status M p ≢ Done
  pub well_typed : IsWellTyped admits net M
  pub has_body : get_or bodies p None ≡ Some (card_of net p)

-- a ready process goes out, asked with its card, local state and last token
pub record TakesOut (s : MachineView) (i : Input) (t : MachineView) : Type 0 where
  pub ready : standing s.standings i.process ≡ Ready
  pub card : card_of s.network i.process ≡ i.card
  pub live : status s.state i.process ≡ Live i.local i.last
  pub after : t ≡ record s { standings = set s.standings i.process Out }

-- the slot of p holds a body of its card
abbrev pub HasBody : Network → List (Option Card) → ℕ → Type 0
HasBody net bodies p = get_or bodies p None ≡ Some (card_of net p)

abbrev pub HasBodies : Network → List Standing → List (Option Card) → Type 0
HasBodies net standings bodies = (p : ℕ) → p < length net.processes → standing standings p ≢ Out → HasBody net bodies p

pub record HasSpareCapacity {X : Type 0} (net : Network) (spare : List X) (capacity : ℕ) : Type 0 where
  pub emptied : spare ≡ []
  pub enough : length net.processes ≤ capacity

abbrev pub waits : Standing → ℕ
waits Ready = 0
waits Out = 0
waits (Parked a) = 1
waits Stopped = 0

abbrev pub stays_in : Standing → ℕ
stays_in Ready = 1
stays_in Out = 0
stays_in (Parked a) = 1
stays_in Stopped = 1

module _ (kinds : Family) (admits : Admits) (s : MachineView) where
  -- the history is a run to the state, and all else fits; there are at most as many answers as entries and
  -- parked processes, and after the end as entries and processes that are not out
  pub record IsSound (limit : ℕ) (bodies : List (Option Card)) : Type 0 where
    pub run : IsRun kinds s.network s.history s.state
    pub keeps : StandingsFit kinds admits s.network None s.state s.standings
    pub limit_is : limit ≡ s.network.budget + 2
    pub many_bodies : length bodies ≡ length s.network.processes
    pub has_bodies : HasBodies s.network s.standings bodies
    pub few : length s.history ≤ s.network.budget + 2
    pub ends : MayStand kinds s.network s.history s.state s.end
    pub busy : s.end ≡ None → list_any is_busy s.standings ≡ true
    pub idle : (end : End) → s.end ≡ Some end → end ≢ Budget → list_any is_busy s.standings ≡ false
    pub asked : s.end ≡ None → s.commits ≤ length s.history + sum_by waits s.standings
    pub laid : s.commits ≤ length s.history + sum_by stays_in s.standings

-- each process that is neither ready nor out wants what it answered
abbrev pub WantAsAnswered : Family → Network → State → List Standing → Type 0
WantAsAnswered kinds net M standings =
    (p : ℕ) → is_busy (standing standings p) ≡ false → wants kinds net M p ≡ parked_answer (standing standings p)

-- what always holds of a machine: its history is a run to its state, always within capacities and well-typed;
-- its end is justified; an enabled process is ready or out, and one that is neither wants what it answered;
-- some process is ready or out exactly until the run ends, unless the budget ended it; there are at most
-- budget + 2 entries, and at most as many answers as entries and processes
pub record IsFaithful (kinds : Family) (admits : Admits) (s : MachineView) : Type 0 where
  pub run : IsRun kinds s.network s.history s.state
  pub within : AtEachMoment kinds s.network s.history IsWithin
  pub well_typed : AtEachMoment kinds s.network s.history (IsWellTyped admits s.network)
  pub justified : MayStand kinds s.network s.history s.state s.end
  pub none_held_back : (p : ℕ) → IsEnabled kinds s.network s.state p → is_busy (standing s.standings p) ≡ true
  pub wanted : WantAsAnswered kinds s.network s.state s.standings
  pub some_busy : s.end ≡ None → list_any is_busy s.standings ≡ true
  pub none_busy : (end : End) → s.end ≡ Some end → end ≢ Budget → list_any is_busy s.standings ≡ false
  pub few_entries : length s.history ≤ s.network.budget + 2
  pub few_commits : s.commits ≤ length s.history + length s.network.processes

pub record IsFresh (s : MachineView) : Type 0 where
  pub no_entry : s.history ≡ []
  pub no_commit : s.commits ≡ 0
  pub no_end : s.end ≡ None
  pub all_ready : list_all is_ready s.standings ≡ true
