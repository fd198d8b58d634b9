-- Several tasks and their answers, one after the other.
use Rattle.std.specs.Prelude.{◌≡◌, ◌≢◌, ◌⊎◌, ℕ, ◌+◌, ◌<◌, ◌≤◌, Bool, List, [], ◌∷◌, ◌++◌, Some, None, Result, Ok, IfOk, IfErr, OnOk, OnErr, MatchResult, MatchOption, Option, length, set, slice_get}
use Rattle.std.specs.List.{All, sum_by}
use Rattle.kpn_model.specs.declared.kinds.Answer.{Answer}
use Rattle.kpn_model.specs.declared.history.End.{End}
use Rattle.kpn_model.specs.declared.kinds.Kinds.{Ghosts as KindsOf}
use Rattle.kpn_model.specs.Families.{family}
use Rattle.kpn_model.specs.Network.{Family, Network, Admits}
use Rattle.kpn_body.specs.Input.{Input, answer_to}
use Rattle.kpn_state.specs.declared.standing.Standing.TheVariants.{Ready}
use Rattle.kpn_commit.specs.declared.outcome.Outcome.{Outcome}
use Rattle.kpn_machine.specs.MachineView.{MachineView, IsOut, TakesOut}
use Rattle.kpn_machine.specs.Commits.{Commits, Appends, ContinuesRun, GoesRounds, entries_appended}
use Rattle.kpn_machine.specs.declared.machine.Stranger.{Stranger}
use Rattle.kpn_monitor.specs.declared.guarded.Next.{Next}
use Rattle.kpn_monitor.specs.declared.guarded.Next.TheVariants.{Tasks, Nothing, Over as AtEnd}
use Rattle.kpn_monitor.specs.declared.guarded.Taken.{Taken}
use Rattle.kpn_monitor.specs.declared.guarded.Taken.TheVariants.{Task, Over as RunOver}
use Rattle.kpn_monitor.specs.declared.guarded.Went.{Went}
use Rattle.kpn_monitor.specs.declared.guarded.Went.TheVariants.{On, Nowhere, Over}
use Rattle.kpn_monitor.specs.Views.{Shares, Holding, UnderLock}
use Rattle.kpn_monitor.specs.Kept.{FoundNothing, HasEnded, WasCommitted, WasTaken, WentRounds}

-- the answers to the first tasks, in order
abbrev pub AreAnswers : Family → List Input → List Answer → Type 0
AreAnswers kinds tasks [] = Unit {0}
AreAnswers kinds [] (a ∷ answers) = ⊥
AreAnswers kinds (i ∷ tasks) (a ∷ answers) = (a ≡ answer_to kinds i) × AreAnswers kinds tasks answers

-- the tasks go out, one after the other
abbrev pub TakesOutAll : MachineView → List Input → MachineView → Type 0
TakesOutAll s [] t = t ≡ s
TakesOutAll s (i ∷ tasks) t = (m : MachineView) × TakesOut s i m × TakesOutAll m tasks t

-- a process may have gone out again at once, with the first task
abbrev pub GoesOutAgain : MachineView → List Input → MachineView → List Input → Type 0
GoesOutAgain s again t rest = ((again ≡ rest) × (t ≡ s)) ⊎ ((i : Input) × (again ≡ i ∷ rest) × TakesOut s i t)

-- the answer is committed with this outcome, and then this holds
abbrev pub CommitsThen : Family → MachineView → Input → Outcome → (MachineView → Type 0) → Type 0
CommitsThen kinds s i o Then =
    (m : MachineView) × Commits kinds s i o m × Appends kinds s m (entries_appended o) × Then m

-- a process may go out again at once, and then this holds
abbrev pub GoesAgainThen : MachineView → List Input → (MachineView → List Input → Type 0) → Type 0
GoesAgainThen s again Then = (t : MachineView) × (rest : List Input) × GoesOutAgain s again t rest × Then t rest

-- the answers to the first tasks are committed in order, with these outcomes; processes go out again with
-- `again`; `left` remain
abbrev pub Gives : Family → MachineView → List Input → List Outcome → List Input → MachineView → List Input → Type 0
Gives kinds s tasks [] again t left = (t ≡ s) × (left ≡ tasks) × (again ≡ [])
Gives kinds s [] (o ∷ outcomes) again t left = ⊥
Gives kinds s (i ∷ tasks) (o ∷ outcomes) again t left =
    CommitsThen kinds s i o (λ m. GoesAgainThen m again (λ n rest. Gives kinds n tasks outcomes rest t left))

-- the process of this task is ready again
abbrev pub ready_again : MachineView → Input → MachineView
ready_again s i = record s { standings = set s.standings i.process Ready }

-- the process that is out with this task becomes ready; if none is, nothing changes
abbrev pub TakesBack : MachineView → Input → MachineView → Type 0
TakesBack s i t = (IsOut s i × (t ≡ ready_again s i)) ⊎ ((IsOut s i → ⊥) × (t ≡ s))

-- the processes that are out with these tasks become ready, the last first
abbrev pub TakesBackAll : MachineView → List Input → MachineView → Type 0
TakesBackAll s [] t = t ≡ s
TakesBackAll s (i ∷ tasks) t = (m : MachineView) × TakesBackAll s tasks m × TakesBack m i t

-- `Gives`, and then those that went out again return
abbrev pub GivesBack : Family → MachineView → List Input → List Outcome → MachineView → List Input → Type 0
GivesBack kinds s tasks outcomes t left =
    (m : MachineView) × (again : List Input) × Gives kinds s tasks outcomes again m left × TakesBackAll m again t

module _ (kinds : Family) (s : MachineView) (tasks : List Input) (outcomes : List Outcome) where
  -- if the run has not ended at m, the answers led to it, with these processes out again
  abbrev pub GivesOpen : List Input → MachineView → Type 0
  GivesOpen again m = m.end ≡ None → Gives kinds s tasks outcomes again m []

  -- if the run has ended at m, the answers led to it, with no process out again
  abbrev pub GivesEnded : List Input → MachineView → Type 0
  GivesEnded again m = m.end ≢ None → (again ≡ []) × GivesBack kinds s tasks outcomes m []

  -- the answers led to m, with these processes out again, and then more tasks went out
  abbrev pub GoesThrough : List Input → MachineView → MachineView → List Input → List Input → Type 0
  GoesThrough held t m again more =
      (held ≡ again ++ more) × GivesOpen again m × GivesEnded again m × TakesOutAll m more t

  -- the answers were given, processes may have gone out again, and then more tasks went out
  abbrev pub GivesAndTakes : List Input → MachineView → Type 0
  GivesAndTakes held t = (m : MachineView) × (again more : List Input) × GoesThrough held t m again more

module _ (kinds : Family) (admits : Admits) (net : Network) where
  -- the answers to the first tasks were committed, with these outcomes; `left` remain
  abbrev pub WereCommitted : List Input → List Outcome → List Input → Type 0
  WereCommitted tasks [] left = left ≡ tasks
  WereCommitted [] (o ∷ outcomes) left = ⊥
  WereCommitted (i ∷ tasks) (o ∷ outcomes) left = WasCommitted kinds admits net i o × WereCommitted tasks outcomes left

-- the share with the entries of this outcome
abbrev pub booked : Shares → Outcome → Shares
booked old o = record old { entries = old.entries + entries_appended o }

-- the share grew by the entries of these outcomes
abbrev pub Books : Shares → Shares → List Outcome → Type 0
Books old new outcomes = new.entries ≡ old.entries + sum_by entries_appended outcomes

module _ (kinds : Family) (admits : Admits) (net : Network) (s : MachineView) (old : List Input) where
  -- more tasks go out, behind those in a hand; all were taken if those were
  pub record Deals (t : MachineView) (new : List Input) : Type 0 where
    pub out : (more : List Input) × (new ≡ old ++ more) × TakesOutAll s more t
    pub taken : All (WasTaken kinds admits net) old → All (WasTaken kinds admits net) new

module _ (kinds : Family) (admits : Admits) (keep : ℕ) (s : MachineView) (old : Holding) where
  -- all answers of a hand were given to a machine, and at most `keep` processes went out again; none if the run ended
  pub record GivesAll (t : MachineView) (new : Holding) : Type 0 where
    pub goes_on : GivesOpen kinds s old.tasks new.outcomes new.tasks t
    pub ended : GivesEnded kinds s old.tasks new.outcomes new.tasks t
    pub committed : WereCommitted kinds admits s.network old.tasks new.outcomes []
    pub taken : All (WasTaken kinds admits s.network) new.tasks
    pub most : length new.tasks ≤ keep
    pub called : new.called ≡ 0

module _ (kinds : Family) (admits : Admits) (s : MachineView) (old : Holding) where
  -- the answers of a hand before this one were given to a machine, which did not ask for it; those after it are left,
  -- and no process went out again
  pub record GivesUpTo (t : MachineView) (new : Holding) (refused : Input) : Type 0 where
    pub machine : GivesBack kinds s old.tasks new.outcomes t (refused ∷ new.tasks)
    pub committed : WereCommitted kinds admits s.network old.tasks new.outcomes (refused ∷ new.tasks)
    pub called : new.called ≡ length new.tasks

module _ {B K : Type 0} (kinds : Family) (admits : Admits) (net : Network) where
  module _ (limit : ℕ) (hand : Holding) (seat : Shares) where
    -- the answers before the refused one were committed, and those after it are left
    abbrev pub CommittedUpTo : Holding → Stranger B K → Type 0
    CommittedUpTo held s = WereCommitted kinds admits net hand.tasks held.outcomes (s.finished ∷ held.tasks)

    -- the answers of a hand were given to a machine of this network, the seat's share grew by the new entries, and the
    -- hand got at most so many tasks, or the seat met the end of the run; or an answer was refused
    pub record Exchanges (held : Holding) (shares : Shares) (result : Result Next (Stranger B K)) : Type 0 where
      pub parts : shares.parts ≡ seat.parts
      pub entries : Books seat shares held.outcomes
      pub committed : OnOk result (WereCommitted kinds admits net hand.tasks held.outcomes [])
      pub stranger : IfErr result (CommittedUpTo held)
      pub kept : OnErr result ((shares.overs ≡ seat.overs) × (held.called ≡ length held.tasks))
      pub taken : OnOk result (All (WasTaken kinds admits net) held.tasks × (held.called ≡ 0))
      pub most : OnOk result (length held.tasks ≤ limit)
      pub tasks : result ≡ Ok Tasks → (shares.overs ≡ seat.overs) × (0 < length held.tasks)
      pub nothing : result ≡ Ok Nothing → (shares.overs ≡ seat.overs) × (held.tasks ≡ [])
      pub found : result ≡ Ok Nothing → 0 < limit → FoundNothing kinds admits net
      pub over : (e : End) → result ≡ Ok (AtEnd e) → (shares.overs ≡ 1) × (held.tasks ≡ [])
      pub ended : (e : End) → result ≡ Ok (AtEnd e) → HasEnded kinds admits net e

module _ {B K : Type 0} (kinds : Family) (admits : Admits) (net : Network) where
  module _ (limit : ℕ) (s : MachineView) (hand : Holding) (seat : Shares) (t : MachineView) (held : Holding) where
    -- so it went from one state of the machine under the lock to another: answers, after which processes may have
    -- gone out again, and then more tasks; or the answers before the refused one
    pub record ExchangesUnderLock (shares : Shares) (result : Result Next (Stranger B K)) : Type 0 where
      pub exchanges : Exchanges kinds admits net limit hand seat held shares result
      pub machine : OnOk result (GivesAndTakes kinds s hand.tasks held.outcomes held.tasks t)
      pub refused : IfErr result (λ x. GivesBack kinds s hand.tasks held.outcomes t (x.finished ∷ held.tasks))
      pub stands : (e : End) → result ≡ Ok (AtEnd e) → t.end ≡ Some e

module _ (kinds : Family) (admits : Admits) (net : Network) (s : MachineView) (old : Shares) (i : Input) where
  -- the machine takes this answer with this outcome, and the seat's share grows by the new entries
  pub record CommitsAnswer (t : MachineView) (new : Shares) (o : Outcome) : Type 0 where
    pub commits : Commits kinds s i o t
    pub appends : Appends kinds s t (entries_appended o)
    pub seat : new ≡ booked old o
    pub committed : WasCommitted kinds admits net i o

module _ {B K : Type 0} (kinds : Family) (admits : Admits) (net : Network) where
  -- a machine of this network took the answer with this outcome, and the seat's share grew by the new entries; or the
  -- answer comes back, and the seat stays
  pub record BooksAnswer (i : Input) (old new : Shares) (result : Result Outcome (Stranger B K)) : Type 0 where
    pub seat : MatchResult result (λ o. new ≡ booked old o) (λ _. new ≡ old)
    pub stranger : IfErr result (λ s. s.finished ≡ i)
    pub committed : IfOk result (λ o. WasCommitted kinds admits net i o)

-- so many ready processes were asked in turn, and the share grew by the new entries
abbrev pub BooksRounds : Family → Admits → Network → ℕ → Shares → Shares → Type 0
BooksRounds kinds admits net n old new =
    (outcomes : List Outcome) × (length outcomes ≡ n) × Books old new outcomes × WentRounds kinds admits net outcomes

-- how many answers were taken in place
abbrev pub answers_of : Went → ℕ
answers_of (On n waited) = n
answers_of Nowhere = 0
answers_of (Over e) = 0

module _ (kinds : Family) (admits : Admits) (net : Network) where
  -- asked in place at most this many times, a machine of this network went so, and the seat with it
  pub record AsksInPlace (most : ℕ) (old new : Shares) (result : Went) : Type 0 where
    pub went : BooksRounds kinds admits net (answers_of result) old new
    pub parts : new.parts ≡ old.parts
    pub on : (n : ℕ) (w : Bool) → result ≡ On n w → (0 < n) × (n ≤ most) × (new.overs ≡ old.overs)
    pub nowhere : result ≡ Nowhere → new ≡ old
    pub found : result ≡ Nowhere → 0 < most → FoundNothing kinds admits net
    pub over : (e : End) → result ≡ Over e → new ≡ record old { overs = 1 }
    pub ended : (e : End) → result ≡ Over e → HasEnded kinds admits net e

module _ (kinds : Family) (admits : Admits) (net : Network) (most : ℕ) (s : MachineView) (old : Shares) where
  -- so it went from one state of the machine under the lock to another
  pub record AsksUnderLock (t : MachineView) (new : Shares) (result : Went) : Type 0 where
    pub asks : AsksInPlace kinds admits net most old new result
    pub machine : ContinuesRun kinds s t
    pub rounds : GoesRounds kinds s asks.went.0 t
    pub stands : (e : End) → result ≡ Over e → t.end ≡ Some e

-- a task for this seat, or the end of the run, which the seat then has met
abbrev pub Receives : {B K : Type 0} → Family → Admits → Network → Shares → Shares → Taken B K → Type 0
Receives kinds admits net old new (Task i) = (new ≡ old) × WasTaken kinds admits net i
Receives kinds admits net old new (RunOver e) = (new ≡ record old { overs = 1 }) × HasEnded kinds admits net e

-- the hand holds this task too, behind the others
abbrev pub with_task : Holding → Input → Holding
with_task hand i = record hand { tasks = hand.tasks ++ i ∷ [] }

-- the first task not called yet is one of this process
abbrev pub CallsTaskOf : Holding → ℕ → Type 0
CallsTaskOf hand n = (i : Input) × (slice_get hand.tasks hand.called ≡ Some i) × (i.process ≡ n)

-- one more task is called
abbrev pub CountsCall : Holding → Holding → Type 0
CountsCall old new = (new ≡ record old { called = old.called + 1 }) × (old.called < length old.tasks)

-- the machine had this end, and stays
abbrev pub HadEnd : MachineView → MachineView → End → Type 0
HadEnd s t e = (s.end ≡ Some e) × (t ≡ s)

-- the seat has met this end of the machine
abbrev pub MeetsEnd : Shares → Shares → MachineView → End → Type 0
MeetsEnd old new t e = (new ≡ record old { overs = 1 }) × (t.end ≡ Some e)

-- the seat has met this end of the machine, and the hand is empty
abbrev pub EndsDeal : Shares → Shares → Holding → MachineView → End → Type 0
EndsDeal old new held t e = (new ≡ record old { overs = 1 }) × (held.tasks ≡ []) × (t.end ≡ Some e)

-- the answer comes back, and nothing changes
abbrev pub RefusesAnswer : {B K : Type 0} → UnderLock → UnderLock → Shares → Shares → Input → Stranger B K → Type 0
RefusesAnswer before after old new i s = (after ≡ before) × (new ≡ old) × (s.finished ≡ i)

module _ {X : Type 0} (kinds : KindsOf X) (keep : ℕ) (s : MachineView) (old : Holding) where
  -- all answers of a hand are given to the machine
  abbrev pub GivesWhole : MachineView → Holding → Type 0
  GivesWhole t new = GivesAll (family kinds) kinds.admits keep s old t new

  -- those before this one are
  abbrev pub GivesPart : MachineView → Holding → Input → Type 0
  GivesPart t new refused = GivesUpTo (family kinds) kinds.admits s old t new refused

  -- all are, or those before one that the machine did not ask for
  abbrev pub GivesHand : MachineView → Holding → Option Input → Type 0
  GivesHand t new refused = MatchOption refused (GivesWhole t new) (GivesPart t new)

module _ {X : Type 0} (kinds : KindsOf X) (net : Network) where
  -- more tasks go out, behind those in the hand
  abbrev pub DealsHand : MachineView → Holding → MachineView → Holding → Type 0
  DealsHand s hand t held = Deals (family kinds) kinds.admits net s hand.tasks t held.tasks

  -- a faithful machine of this network sent out this input
  abbrev pub WasSent : Input → Type 0
  WasSent i = WasTaken (family kinds) kinds.admits net i

  -- one more task goes out, into the hand
  abbrev pub DealsOne : UnderLock → Holding → UnderLock → Holding → Type 0
  DealsOne before hand after held =
      (i : Input) × (held ≡ with_task hand i) × TakesOut before.machine i after.machine × WasSent i

  -- the machine under the lock and the seat go so, asked in place at most this many times
  abbrev pub LockedAsk : ℕ → UnderLock → Shares → UnderLock → Shares → Went → Type 0
  LockedAsk most before old after new result =
      AsksUnderLock (family kinds) kinds.admits net most before.machine old after.machine new result

module _ {X B K : Type 0} (kinds : KindsOf X) (net : Network) (most : ℕ) where
  -- the hand and the seat go so, at a machine of this network
  abbrev pub ExchangesHand : Holding → Shares → Holding → Shares → Result Next (Stranger B K) → Type 0
  ExchangesHand hand seat held shares result =
      Exchanges (family kinds) kinds.admits net most hand seat held shares result

  module _ (old : UnderLock) (hand : Holding) (seat : Shares) (new : UnderLock) where
    -- the machine under the lock, the hand and the seat go so
    abbrev pub LockedExchange : Holding → Shares → Result Next (Stranger B K) → Type 0
    LockedExchange held shares result =
        ExchangesUnderLock (family kinds) kinds.admits net most old.machine hand seat new.machine held shares result

module _ {X : Type 0} (kinds : KindsOf X) (net : Network) where
  module _ (before : UnderLock) (old : Shares) (i : Input) (after : UnderLock) (new : Shares) where
    -- the machine under the lock takes this answer
    abbrev pub TakesAnswer : Outcome → Type 0
    TakesAnswer o = CommitsAnswer (family kinds) kinds.admits net before.machine old i after.machine new o

    -- the machine under the lock takes this answer, or it comes back
    abbrev pub CommitsUnderLock : {B K : Type 0} → Result Outcome (Stranger B K) → Type 0
    CommitsUnderLock result = MatchResult result TakesAnswer (RefusesAnswer before after old new i)
