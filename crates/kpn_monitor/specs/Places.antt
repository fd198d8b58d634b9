-- Tasks in places, some of them free.
use Rattle.std.specs.Prelude.{◌≡◌, ℕ, ◌+◌, ◌<◌, ◌≤◌, List, [], ◌∷◌, ◌++◌, Option, Some, None, length, drop, take, slice_get, slice_index_or}
use Rattle.std.specs.List.{All}
use Rattle.kpn_model.specs.declared.kinds.Answer.{Answer}
use Rattle.kpn_model.specs.Network.{Family, Network, Admits}
use Rattle.kpn_body.specs.Input.{Input}
use Rattle.kpn_commit.specs.declared.outcome.Outcome.{Outcome}
use Rattle.kpn_machine.specs.MachineView.{MachineView, IsOut}
use Rattle.kpn_machine.specs.Commits.{Commits, CommitsOn, Appends, entries_appended}
use Rattle.kpn_monitor.specs.Views.{Placed}
use Rattle.kpn_monitor.specs.Kept.{WasCommitted, WasTaken}
use Rattle.kpn_monitor.specs.Hands.{AreAnswers, GoesOutAgain, Gives, WereCommitted}

-- the tasks in these places, in order
abbrev pub tasks_in : List (Option Input) → List Input
tasks_in [] = []
tasks_in (None ∷ places) = tasks_in places
tasks_in (Some i ∷ places) = i ∷ tasks_in places

-- no place is free
abbrev pub AreTaken : List (Option Input) → Type 0
AreTaken [] = Unit {0}
AreTaken (None ∷ places) = ⊥
AreTaken (Some i ∷ places) = AreTaken places

module _ (kinds : Family) (places : List (Option Input)) (answers : List Answer) where
  -- at most 64 places: the first `kept` hold tasks that went out again, then some may be free, and from `given`
  -- on they hold tasks, the first of them called
  pub record IsLaidOut (given kept : ℕ) : Type 0 where
    pub few : length places ≤ 64
    pub in_order : kept ≤ given
    pub called : given ≤ length answers
    pub within : length answers ≤ length places
    pub again : AreTaken (take kept places)
    pub tasks : AreTaken (drop given places)
    pub answered : AreAnswers kinds (tasks_in (drop given places)) (drop given answers)

-- this is the first task not called yet
abbrev pub IsNextTask : Placed → Input → Type 0
IsNextTask p i = slice_get p.tasks p.called ≡ Some i

abbrev pub one_more_called : Placed → Placed
one_more_called p = record p { called = p.called + 1 }

-- the first task not called yet was called, a task of this process; or all were
abbrev pub CallsNext : Placed → Option ℕ → Placed → Type 0
CallsNext p None q = (p.called ≡ length p.tasks) × (q ≡ p)
CallsNext p (Some n) q =
    (i : Input) × IsNextTask p i × (i.process ≡ n) × (p.called < length p.tasks) × (q ≡ one_more_called p)

-- there is a first answer, a machine asked for it, and its outcome has room
pub record HasFirst (s : MachineView) (p : Placed) : Type 0 where
  pub called : 0 < p.called
  pub out : (i : Input) → slice_get p.tasks 0 ≡ Some i → IsOut s i
  pub room : length p.outcomes < 64

module _ (kinds : Family) (admits : Admits) (s : MachineView) (p : Placed) where
  -- the first answer was given to a machine; its process may have gone out again
  pub record GivesFirst (t : MachineView) (q : Placed) : Type 0 where
    pub input : Input
    pub outcome : Outcome
    pub between : MachineView
    pub more : List Input
    pub first : p.tasks ≡ input ∷ q.tasks
    pub called : p.called ≡ q.called + 1
    pub outcomes : q.outcomes ≡ p.outcomes ++ outcome ∷ []
    pub again : q.again ≡ p.again ++ more
    pub commits : Commits kinds s input outcome between
    pub appends : Appends kinds s between (entries_appended outcome)
    pub out : GoesOutAgain between more t []
    pub network : t.network ≡ s.network
    pub committed : WasCommitted kinds admits s.network input outcome
    pub taken : All (WasTaken kinds admits s.network) more

-- the answers to the first tasks are committed in order, and processes may go out again
abbrev pub GivesFrom : Family → MachineView → Placed → MachineView → Placed → Type 0
GivesFrom kinds s p t q = Gives kinds s p.tasks q.outcomes q.again t q.tasks

-- the answers to the first tasks were committed
abbrev pub CommittedFrom : Family → Admits → Network → Placed → Placed → Type 0
CommittedFrom kinds admits net p q = WereCommitted kinds admits net p.tasks q.outcomes q.tasks

-- the places after the first task went out again
abbrev pub after_stay : Placed → Placed → Input → List Input → Outcome → Placed
after_stay p q j rest o =
    record {
      again = p.again ++ j ∷ [];
      tasks = rest;
      called = q.called;
      given = q.given;
      outcomes = p.outcomes ++ o ∷ [];
    }

module _ (kinds : Family) (s : MachineView) (p : Placed) (t : MachineView) (q : Placed) where
  -- the answer to the first task was given, with this outcome, and its process went out again
  abbrev pub StaysBy : Input → Input → Outcome → List Input → Type 0
  StaysBy i j o rest =
      (p.tasks ≡ i ∷ rest) × (q ≡ after_stay p q j rest o) × (p.called ≡ q.called + 1) × CommitsOn kinds s i o j t

  -- the first answer was given, and its process went out again
  abbrev pub Stays : Type 0
  Stays = (i j : Input) × (o : Outcome) × (rest : List Input) × StaysBy i j o rest

-- the tasks that went out again are the next to call
abbrev pub settled_places : Placed → Placed
settled_places p = record { again = []; tasks = p.again; called = 0; given = 0; outcomes = p.outcomes }

-- the item at `from` is moved up to `to`, behind those before it
abbrev pub MovesUp : {X : Type 0} → List X → ℕ → ℕ → List X → Type 0
MovesUp {X} old to from new = (d : X) → take (to + 1) new ≡ take to old ++ slice_index_or old from d ∷ []
