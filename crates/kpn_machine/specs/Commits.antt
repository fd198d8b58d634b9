-- The effect of taking an answer.
use Rattle.std.specs.Prelude.{◌≡◌, ◌≢◌, ◌⊎◌, ◌↔◌, ℕ, ◌+◌, ◌<◌, ◌≤◌, true, List, [], ◌∷◌, Option, Some, None, length, set, ◌++◌}
use Rattle.kpn_model.specs.declared.kinds.Answer.{Answer}
use Rattle.kpn_model.specs.declared.history.Entry.{Entry}
use Rattle.kpn_model.specs.declared.history.End.{End}
use Rattle.kpn_model.specs.declared.history.End.TheVariants.{Budget, Memory}
use Rattle.kpn_model.specs.Network.{Family, Network}
use Rattle.kpn_model.specs.Semantics.{Run, IsEnabled}
use Rattle.kpn_model.specs.Endings.{CanGrow, IsOver}
use Rattle.kpn_model.specs.texts.Reports.{has_report}
use Rattle.kpn_body.specs.Input.{Input, answer_to}
use Rattle.kpn_state.specs.StateAndHistory.{StateAndHistory}
use Rattle.kpn_state.specs.declared.standing.Standing.{Standing}
use Rattle.kpn_state.specs.declared.standing.Standing.TheVariants.{Ready, Out}
use Rattle.kpn_commit.specs.declared.resolution.Resolution.{Resolution}
use Rattle.kpn_commit.specs.declared.resolution.Resolution.TheVariants.{Enlarged}
use Rattle.kpn_commit.specs.declared.outcome.Outcome.{Outcome}
use Rattle.kpn_commit.specs.declared.outcome.Outcome.TheVariants.{Done, Parked, LaidBack}
use Rattle.kpn_state.specs.Standings.{standing}
use Rattle.kpn_commit.specs.Reactions.{CannotGoOn}
use Rattle.kpn_commit.specs.Resolving.{NoneIsBusy}
use Rattle.kpn_commit.specs.Works.{Works}
use Rattle.kpn_machine.specs.MachineView.{MachineView, TakesOut, state_and_history_of}

abbrev pub entries_appended : Outcome → ℕ
entries_appended (Done n) = n
entries_appended (Parked n) = n
entries_appended LaidBack = 0

-- n new entries lead from the old state to the new one
pub record Appends (kinds : Family) (s t : MachineView) (n : ℕ) : Type 0 where
  pub entries : List Entry
  pub history : t.history ≡ s.history ++ entries
  pub run : Run kinds s.network s.state entries t.state
  pub count : length entries ≡ n

-- the history continues as a run, in the same network
pub record ContinuesRun (kinds : Family) (s t : MachineView) : Type 0 where
  pub network : t.network ≡ s.network
  pub commits : s.commits ≤ t.commits
  pub entries : List Entry
  pub history : t.history ≡ s.history ++ entries
  pub run : Run kinds s.network s.state entries t.state

module _ (kinds : Family) (s : MachineView) where
  -- p's answer was worked on, and led to this
  abbrev pub WorksFrom : ℕ → Answer → Outcome → StateAndHistory → List Standing → Option End → Type 0
  WorksFrom p a o u moved end = Works kinds s.network (state_and_history_of s) s.standings p a o u moved end

-- a growth follows exactly when one is due and no process is ready or out
abbrev pub GrowsWhenDue : Family → Network → StateAndHistory → List Standing → Resolution → Type 0
GrowsWhenDue kinds net u standings r = (r ≡ Enlarged) ↔ (NoneIsBusy standings × CanGrow kinds net u.state)

-- the answer was worked on, in a run that had not ended; a growth follows exactly when one is due and no
-- process is ready or out, unless out of memory
pub record WorksOn (kinds : Family) (s : MachineView) (i : Input) (o : Outcome) (t : MachineView) : Type 0 where
  pub before : s.end ≡ None
  pub network : t.network ≡ s.network
  pub commits : t.commits ≡ s.commits + 1
  pub works : WorksFrom kinds s i.process (answer_to kinds i) o (state_and_history_of t) t.standings t.end
  pub grows : t.end ≢ Some Memory → GrowsWhenDue kinds s.network works.between works.standings_between works.resolution

-- p is ready again, and its answer counted
abbrev pub laid_back : MachineView → ℕ → MachineView
laid_back s p = record s { standings = set s.standings p Ready; commits = s.commits + 1 }

abbrev pub Commits : Family → MachineView → Input → Outcome → MachineView → Type 0
Commits kinds s i LaidBack t = (s.end ≢ None) × (t ≡ laid_back s i.process)
Commits kinds s i (Done n) t = WorksOn kinds s i (Done n) t
Commits kinds s i (Parked n) t = WorksOn kinds s i (Parked n) t

-- done exactly when the process was enabled; else parked, with no entry or with a growth and a put; or laid back,
-- if the run had ended
abbrev pub TellsEnabled : Family → MachineView → ℕ → Outcome → Type 0
TellsEnabled kinds s p (Done n) = IsEnabled kinds s.network s.state p × (1 ≤ n) × (n ≤ 3)
TellsEnabled kinds s p (Parked n) = (IsEnabled kinds s.network s.state p → ⊥) × ((n ≡ 0) ⊎ (n ≡ 2))
TellsEnabled kinds s p LaidBack = s.end ≢ None

-- no process is ready or out, and nothing can happen any more, for this cause
abbrev pub IsIdleAndOver : Family → MachineView → End → Type 0
IsIdleAndOver kinds t cause = NoneIsBusy t.standings × IsOver kinds t.network t.state cause

-- the end after a commit, if there was none before
pub record EndsAs (kinds : Family) (t : MachineView) : Type 0 where
  pub over : (cause : End) → has_report cause ≡ true → (t.end ≡ Some cause) ↔ IsIdleAndOver kinds t cause
  pub memory : t.end ≡ Some Memory → NoneIsBusy t.standings × CanGrow kinds t.network t.state
  pub budget : t.end ≡ Some Budget → t.network.budget ≤ length t.history
  pub none : t.end ≡ None → length t.history < t.network.budget

-- of all other processes than p, the same are out
abbrev pub OthersStayOut : MachineView → MachineView → ℕ → Type 0
OthersStayOut s t p = (q : ℕ) → q ≢ p → (standing t.standings q ≡ Out) ↔ (standing s.standings q ≡ Out)

-- a ready process was asked and its answer taken, as if it had been out in between
pub record GoesRound (kinds : Family) (s t : MachineView) : Type 0 where
  pub input : Input
  pub between : MachineView
  pub outcome : Outcome
  pub takes : TakesOut s input between
  pub commits : Commits kinds between input outcome t
  pub appends : Appends kinds between t (entries_appended outcome)
  pub tells : TellsEnabled kinds between input.process outcome
  pub back : standing t.standings input.process ≢ Out
  pub others : OthersStayOut between t input.process

-- a ready process was asked, with this outcome, and then this holds
abbrev pub GoesRoundThen : Family → MachineView → Outcome → (MachineView → Type 0) → Type 0
GoesRoundThen kinds s o Then = (m : MachineView) × (round : GoesRound kinds s m) × (round.outcome ≡ o) × Then m

-- ready processes were asked, one after the other, with these outcomes
abbrev pub GoesRounds : Family → MachineView → List Outcome → MachineView → Type 0
GoesRounds kinds s [] t = t ≡ s
GoesRounds kinds s (o ∷ outcomes) t = GoesRoundThen kinds s o (λ m. GoesRounds kinds m outcomes t)

-- so many ready processes were asked, one after the other
abbrev pub GoesSoManyRounds : Family → MachineView → ℕ → MachineView → Type 0
GoesSoManyRounds kinds s n t = (outcomes : List Outcome) × (length outcomes ≡ n) × GoesRounds kinds s outcomes t

-- this many answers were taken, at most `most`; none only if no process was ready or `most` is 0
pub record GoesOn (kinds : Family) (s : MachineView) (most asked : ℕ) (t : MachineView) : Type 0 where
  pub rounds : GoesSoManyRounds kinds s asked t
  pub few : asked ≤ most
  pub stuck : asked ≡ 0 → 0 < most → (p : ℕ) → standing s.standings p ≢ Ready

-- p can't go on as it answered, if the run has not ended and the budget has room for three more entries
abbrev pub CannotCommitOn : Family → MachineView → ℕ → Answer → Type 0
CannotCommitOn kinds s p a =
    s.end ≡ None → length s.history + 2 < s.network.budget → CannotGoOn kinds s.network s.state p a

module _ (kinds : Family) (s : MachineView) (i : Input) (outcome : Outcome) where
  -- the answer of a process that was out was taken, and the process went out again
  pub record CommitsOn (j : Input) (t : MachineView) : Type 0 where
    pub between : MachineView
    pub commits : Commits kinds s i outcome between
    pub appends : Appends kinds s between (entries_appended outcome)
    pub tells : TellsEnabled kinds s i.process outcome
    pub takes : TakesOut between j t
    pub same : j.process ≡ i.process
