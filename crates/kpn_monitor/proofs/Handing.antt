-- A hand's tasks and answers, with one more and one less.
use Rattle.std.proofs.Common.{◌≡◌, inl, inr, ℕ, ◌+◌, ◌<◌, zero, suc, List, [], ◌∷◌, ◌++◌, length, refl, ap, sym, subst, ◌∙◌, arith, length-append}
use Rattle.std.specs.Prelude.{◌≢◌, Option, Some, None, IsSome, MatchOption, slice_get, slice_index_or}
use mathlib.Core.List.{IsPrefix}
use Rattle.kpn_watch.proofs.Fronts.{prefix_self, prefix_trans}
use Rattle.std.specs.List.{All, sum_by}
use Rattle.std.proofs.lemmas.Option.{same_Some}
use Rattle.std.proofs.lemmas.List.Sums.{sum_by-cons}
use Rattle.std.proofs.lemmas.List.Elements.{All-append}
use Rattle.kpn_model.specs.declared.history.End.{End}
use Rattle.kpn_model.specs.declared.kinds.Answer.{Answer}
use Rattle.kpn_model.specs.Network.{Family, Network, Admits}
use Rattle.kpn_body.specs.Input.{Input, answer_to}
use Rattle.kpn_commit.specs.declared.outcome.Outcome.{Outcome}
use Rattle.kpn_commit.specs.declared.outcome.Outcome.TheVariants.{Done, Parked, LaidBack}
use Rattle.kpn_machine.specs.MachineView.{MachineView, IsFaithful, TakesOut}
use Rattle.kpn_machine.specs.Commits.{Commits, Appends, GoesRounds, entries_appended}
use Rattle.atomic_table.specs.Seated.{TableId}
use Rattle.kpn_watch.specs.Boards.{Published}
use Rattle.kpn_watch.specs.Phases.{phase_of}
use Rattle.kpn_watch.specs.declared.progress.Phase.TheVariants.{Running}
use Rattle.kpn_monitor.specs.Views.{Holding}
use Rattle.kpn_monitor.specs.Kept.{IsKept, IsShown, WasCommitted}
use Rattle.kpn_monitor.specs.Hands.{AreAnswers, TakesOutAll, GoesOutAgain, Gives, GivesAll, GivesUpTo, TakesBack, TakesBackAll, GivesBack, WereCommitted}

-- one more task
pub answers_put : (kinds : Family) (tasks : List Input) (answers : List Answer) (i : Input) → AreAnswers kinds tasks answers → AreAnswers kinds (tasks ++ i ∷ []) answers
answers_put kinds tasks [] i are = tt
answers_put kinds [] (a ∷ answers) i are = absurd are
answers_put kinds (t ∷ tasks) (a ∷ answers) i are = (are.0, answers_put kinds tasks answers i are.1)

-- one more answer, to the first task that had none
pub answers_called : (kinds : Family) (tasks : List Input) (answers : List Answer) (i : Input) (a : Answer) → slice_get tasks (length answers) ≡ Some i → a ≡ answer_to kinds i
    → AreAnswers kinds tasks answers → AreAnswers kinds tasks (answers ++ a ∷ [])
answers_called kinds [] [] i a at is are = absurd (cc)
answers_called kinds (t ∷ tasks) [] i a at is are = (is ∙ ap (answer_to kinds) (sym (same_Some t i at)), tt)
answers_called kinds [] (b ∷ answers) i a at is are = absurd are
answers_called kinds (t ∷ tasks) (b ∷ answers) i a at is are = (are.0, answers_called kinds tasks answers i a at is are.1)

pub length_more : {X : Type 0} (xs : List X) (y : X) → length (xs ++ y ∷ []) ≡ length xs + 1
length_more xs y = omega (arith, length-append xs (y ∷ []))

pub no_item : {X : Type 0} (xs : List X) → length xs ≡ 0 → xs ≡ []
no_item [] none = refl
no_item (x ∷ xs) none = absurd (omega (arith, none))

-- one more task went out
pub takes_more : (s : MachineView) (tasks : List Input) (m : MachineView) (i : Input) (t : MachineView) → TakesOutAll s tasks m → TakesOut m i t → TakesOutAll s (tasks ++ i ∷ []) t
takes_more s [] m i t all one = (t, subst (λ (x : MachineView). TakesOut x i t) all one, refl)
takes_more s (j ∷ tasks) m i t all one = (all.0, all.1, takes_more all.0 tasks m i t all.2 one)

-- tasks that go out again later stand behind
out_again : (s : MachineView) (again : List Input) (t : MachineView) (rest more : List Input) → GoesOutAgain s again t rest → GoesOutAgain s (again ++ more) t (rest ++ more)
out_again s again t rest more (inl same) = inl (ap (λ (l : List Input). l ++ more) same.0, same.1)
out_again s again t rest more (inr one) = inr (one.0, ap (λ (l : List Input). l ++ more) one.1, one.2)

-- answers were given until a machine m, and one more is given to it
pub gives_more : (kinds : Family) (s : MachineView) (tasks : List Input) (outcomes : List Outcome) (again : List Input) (m : MachineView) (i : Input) (left : List Input) (o : Outcome) (n : MachineView) (more : List Input) (t : MachineView)
    → Gives kinds s tasks outcomes again m (i ∷ left) → Commits kinds m i o n → Appends kinds m n (entries_appended o) → GoesOutAgain n more t [] → Gives kinds s tasks (outcomes ++ o ∷ []) (again ++ more) t left
gives_more kinds s [] [] again m i left o n more t all one appends out = absurd (let e = all.1 in cc)
gives_more kinds s (j ∷ tasks) [] again m i left o n more t all one appends out =
    let last : Gives kinds m (i ∷ left) (o ∷ []) more t left = (n, one, appends, (t, [], out, (refl, refl, refl))) in
    rw (all.2) (subst (λ (l : List Input). Gives kinds s l (o ∷ []) more t left) all.1 (subst (λ (x : MachineView). Gives kinds x (i ∷ left) (o ∷ []) more t left) all.0 last))
gives_more kinds s [] (p ∷ outcomes) again m i left o n more t all one appends out = absurd all
gives_more kinds s (j ∷ tasks) (p ∷ outcomes) again m i left o n more t all one appends out =
    (all.0, all.1, all.2, (all.3.0, all.3.1 ++ more, out_again all.0 again all.3.0 all.3.1 more all.3.2, gives_more kinds all.3.0 tasks outcomes all.3.1 m i left o n more t all.3.3 one appends out))

pub committed_more : (kinds : Family) (admits : Admits) (net : Network) (tasks : List Input) (outcomes : List Outcome) (i : Input) (left : List Input) (o : Outcome)
    → WereCommitted kinds admits net tasks outcomes (i ∷ left) → WasCommitted kinds admits net i o → WereCommitted kinds admits net tasks (outcomes ++ o ∷ []) left
committed_more kinds admits net [] [] i left o all one = absurd (let e = all in cc)
committed_more kinds admits net (j ∷ tasks) [] i left o all one = subst (λ (l : List Input). WereCommitted kinds admits net l (o ∷ []) left) all (one, refl)
committed_more kinds admits net [] (p ∷ outcomes) i left o all one = absurd all
committed_more kinds admits net (j ∷ tasks) (p ∷ outcomes) i left o all one = (all.0, committed_more kinds admits net tasks outcomes i left o all.1 one)

pub one_at : {X : Type 0} (P : X → Type 0) (y : X) → P y → (k : ℕ) (d : X) → k < 1 → P (slice_index_or (y ∷ []) k d)
one_at P y p zero d lt = p
one_at P y p (suc k) d lt = absurd (omega arith)

pub all_one : {X : Type 0} (P : X → Type 0) (xs : List X) (y : X) → xs ≡ y ∷ [] → P y → All P xs
all_one P xs y is p = rw is (one_at P y p)

pub all_more : {X : Type 0} (P : X → Type 0) (xs ys : List X) (y : X) → ys ≡ xs ++ y ∷ [] → All P xs → P y → All P ys
all_more P xs ys y is all p = rw is (All-append P xs (y ∷ []) all (one_at P y p))

-- in the same network, the history went on by n entries; if the run had ended, by none, and the end stays
pub record WentOn (s t : MachineView) (n : ℕ) : Type 0 where
  pub network : t.network ≡ s.network
  pub history : IsPrefix s.history t.history
  pub count : length t.history ≡ length s.history + n
  pub ended : s.end ≢ None → (t.history ≡ s.history) × (t.end ≡ s.end)

went_nowhere : (s : MachineView) → WentOn s s 0
went_nowhere s = record { network = refl; history = prefix_self s.history; count = omega arith; ended = λ stands. (refl, refl) }

pub went_on_once : (kinds : Family) (s : MachineView) (i : Input) (o : Outcome) (t : MachineView) → Commits kinds s i o t → Appends kinds s t (entries_appended o) → WentOn s t (entries_appended o)
went_on_once kinds s i (Done n) t one more = record { network = one.network; history = (more.entries, sym more.history); count = omega (arith, ap length more.history, length-append s.history more.entries, more.count); ended = λ stands. absurd (stands one.before) }
went_on_once kinds s i (Parked n) t one more = record { network = one.network; history = (more.entries, sym more.history); count = omega (arith, ap length more.history, length-append s.history more.entries, more.count); ended = λ stands. absurd (stands one.before) }
went_on_once kinds s i LaidBack t one more = record { network = ap (λ (x : MachineView). x.network) one.1; history = (more.entries, sym more.history); count = omega (arith, ap length more.history, length-append s.history more.entries, more.count); ended = λ stands. (ap (λ (x : MachineView). x.history) one.1, ap (λ (x : MachineView). x.end) one.1) }

went_on_again : (s m t : MachineView) (a b : ℕ) → WentOn s m a → WentOn m t b → WentOn s t (a + b)
went_on_again s m t a b one more = record {
  network = more.network ∙ one.network;
  history = prefix_trans s.history m.history t.history one.history more.history;
  count = omega (arith, one.count, more.count);
  ended = λ stands.
      let first = one.ended stands in
      let next = more.ended (λ none. stands (sym first.1 ∙ none)) in
      (next.0 ∙ first.0, next.1 ∙ first.1);
}

-- processes that go out again append nothing
went_out : (s : MachineView) (again : List Input) (t : MachineView) (rest : List Input) (r : MachineView) (n : ℕ) → GoesOutAgain s again t rest → WentOn r s n → WentOn r t n
went_out s again t rest r n (inl same) on = subst (λ (x : MachineView). WentOn r x n) (sym same.1) on
went_out s again t rest r n (inr one) on = subst (λ (x : MachineView). WentOn r x n) (sym one.2.after) (record { network = on.network; history = on.history; count = on.count; ended = on.ended })

-- if answers were given, the history went on by as many entries as they appended
pub went_on : (kinds : Family) (s : MachineView) (tasks : List Input) (outcomes : List Outcome) (again : List Input) (t : MachineView) (left : List Input) → Gives kinds s tasks outcomes again t left → WentOn s t (sum_by entries_appended outcomes)
went_on kinds s tasks [] again t left all = subst (λ (x : MachineView). WentOn s x 0) (sym all.0) (went_nowhere s)
went_on kinds s [] (o ∷ outcomes) again t left all = absurd all
went_on kinds s (i ∷ tasks) (o ∷ outcomes) again t left all =
    let first = went_out all.0 again all.3.0 all.3.1 s (entries_appended o) all.3.2 (went_on_once kinds s i o all.0 all.1 all.2) in
    subst (λ n. WentOn s t n) (sym (sum_by-cons entries_appended o outcomes)) (went_on_again s all.3.0 t (entries_appended o) (sum_by entries_appended outcomes) first (went_on kinds all.3.0 tasks outcomes all.3.1 t left all.3.3))

-- a process that comes back appends nothing
came_one : (s : MachineView) (i : Input) (t : MachineView) → TakesBack s i t → (r : MachineView) (n : ℕ) → WentOn r s n → WentOn r t n
came_one s i t (inl back) r n on = subst (λ (x : MachineView). WentOn r x n) (sym back.1) (record { network = on.network; history = on.history; count = on.count; ended = on.ended })
came_one s i t (inr same) r n on = subst (λ (x : MachineView). WentOn r x n) (sym same.1) on

-- processes that come back append nothing
came_back : (s : MachineView) (tasks : List Input) (t : MachineView) → TakesBackAll s tasks t → (r : MachineView) (n : ℕ) → WentOn r s n → WentOn r t n
came_back s [] t same r n on = subst (λ (x : MachineView). WentOn r x n) (sym same) on
came_back s (i ∷ tasks) t back r n on = came_one back.0 i t back.2 r n (came_back s tasks back.0 back.1 r n on)

-- also if those that went out again came back
gave_on : (kinds : Family) (s : MachineView) (tasks : List Input) (outcomes : List Outcome) (t : MachineView) (left : List Input) → GivesBack kinds s tasks outcomes t left → WentOn s t (sum_by entries_appended outcomes)
gave_on kinds s tasks outcomes t left all = came_back all.0 all.1 t all.3 s (sum_by entries_appended outcomes) (went_on kinds s tasks outcomes all.1 all.0 left all.2)

gave_all : (kinds : Family) (s : MachineView) (tasks : List Input) (outcomes : List Outcome) (t : MachineView) (left : List Input) (end : Option End) → t.end ≡ end
    → (t.end ≡ None → Gives kinds s tasks outcomes left t []) → (t.end ≢ None → (left ≡ []) × GivesBack kinds s tasks outcomes t []) → WentOn s t (sum_by entries_appended outcomes)
gave_all kinds s tasks outcomes t left None is goes_on ended = went_on kinds s tasks outcomes left t [] (goes_on is)
gave_all kinds s tasks outcomes t left (Some e) is goes_on ended = gave_on kinds s tasks outcomes t [] (ended (λ none. cc)).1

-- whether the run goes on, has ended or an answer was refused
pub gave : (kinds : Family) (admits : Admits) (keep : ℕ) (s : MachineView) (old : Holding) (t : MachineView) (new : Holding) (refused : Option Input)
    → MatchOption refused (GivesAll kinds admits keep s old t new) (GivesUpTo kinds admits s old t new) → WentOn s t (sum_by entries_appended new.outcomes)
gave kinds admits keep s old t new None all = gave_all kinds s old.tasks new.outcomes t new.tasks t.end refl all.goes_on all.ended
gave kinds admits keep s old t new (Some i) some = gave_on kinds s old.tasks new.outcomes t (i ∷ new.tasks) some.machine

pub some_end : {X : Type 0} (e : Option X) → IsSome e → e ≢ None
some_end None some is = absurd (cc)
some_end (Some x) some is = cc

-- what the lock guards is kept if the history goes on, and so is published and booked
pub kept_on : (kinds : Family) (admits : Admits) (net : Network) (board : TableId) (s : MachineView) (p : Published) (entries overs : ℕ) (t : MachineView) (q : Published) (booked n : ℕ)
    → IsKept kinds admits net s entries overs → IsShown board s p → WentOn s t n → IsFaithful kinds admits t → q ≡ record p { entries = t.history; phase = phase_of t.end } → booked ≡ entries + n → IsKept kinds admits net t booked overs × IsShown board t q
kept_on kinds admits net board s p entries overs t q booked n kept shown on faithful published more = (
  record {
    network = on.network ∙ kept.network;
    faithful = faithful;
    ended = λ met. subst IsSome (sym (on.ended (some_end s.end (kept.ended met))).1) (kept.ended met);
    counted = omega (arith, more, kept.counted, on.count);
  },
  record {
    board_is = ap (λ (x : Published). x.board) published ∙ shown.board_is;
    entries = ap (λ (x : Published). x.entries) published;
    phase = ap (λ (x : Published). x.phase) published;
  },
)

-- a history that goes on may be published
pub shows_on : (board : TableId) (s : MachineView) (p : Published) (t : MachineView) (n : ℕ) → IsShown board s p → WentOn s t n → IsPrefix p.entries t.history
shows_on board s p t n shown on = subst (λ l. IsPrefix l t.history) (sym shown.entries) on.history

pub stays_shown : (board : TableId) (s : MachineView) (p : Published) (t : MachineView) (n : ℕ) → IsShown board s p → WentOn s t n → p.phase ≢ Running → (t.history ≡ p.entries) × (phase_of t.end ≡ p.phase)
stays_shown board s p t n shown on ended =
    let same = on.ended (λ none. ended (shown.phase ∙ ap phase_of none)) in
    (same.0 ∙ sym shown.entries, ap phase_of same.1 ∙ sym shown.phase)

-- rounds append as many entries as their outcomes say
pub rounds_append : (kinds : Family) (s : MachineView) (outcomes : List Outcome) (t : MachineView) → GoesRounds kinds s outcomes t → length t.history ≡ length s.history + sum_by entries_appended outcomes
rounds_append kinds s [] t rounds = omega (arith, ap (λ (x : MachineView). length x.history) rounds)
rounds_append kinds s (o ∷ outcomes) t rounds =
    let r = rounds.1 in
    let more = r.appends in
    let rest = rounds_append kinds rounds.0 outcomes t rounds.3 in
    omega (
      arith,
      rest,
      sum_by-cons entries_appended o outcomes,
      ap entries_appended rounds.2,
      more.count,
      ap length more.history,
      length-append r.between.history more.entries,
      ap (λ (x : MachineView). length x.history) r.takes.after,
    )
