-- Tasks in places: one more, one less, and one that stays.
use Rattle.std.proofs.Common.{get_or-set_same, ◌≡◌, ◌∙◌, ℕ, ◌+◌, ◌-◌, ◌<◌, ◌≤◌, zero, suc, List, [], ◌∷◌, ◌++◌, length, take, drop, set, get_or, refl, ap, sym, subst, arith, length-append, length-drop, length-set, Some, None, Option}
use Rattle.std.specs.Prelude.{slice_get, IfNone, IfSome}
use Rattle.std.proofs.Math.Seq.{get_or-append_seam}
use Rattle.std.proofs.lemmas.List.{length-take-le, take-set-le, take-append-le, take_more, drop-set-lt, drop-append-le, drop_more, get_or-drop}
use Rattle.kpn_model.specs.declared.kinds.Answer.{Answer}
use Rattle.kpn_model.specs.Network.{Family}
use Rattle.kpn_body.specs.Input.{Input, answer_to}
use Rattle.kpn_monitor.specs.Hands.{AreAnswers}
use Rattle.kpn_monitor.specs.Places.{tasks_in, AreTaken, IsLaidOut}
use Rattle.kpn_monitor.proofs.Handing.{answers_put, answers_called}

pub tasks_append : (xs ys : List (Option Input)) → tasks_in (xs ++ ys) ≡ tasks_in xs ++ tasks_in ys
tasks_append [] ys = refl
tasks_append (None ∷ xs) ys = tasks_append xs ys
tasks_append (Some i ∷ xs) ys = ap (λ (l : List Input). i ∷ l) (tasks_append xs ys)

pub taken_append : (xs ys : List (Option Input)) → AreTaken xs → AreTaken ys → AreTaken (xs ++ ys)
taken_append [] ys first rest = rest
taken_append (None ∷ xs) ys first rest = absurd first
taken_append (Some i ∷ xs) ys first rest = taken_append xs ys first rest

-- as many tasks as places
pub tasks_many : (xs : List (Option Input)) → AreTaken xs → length (tasks_in xs) ≡ length xs
tasks_many [] taken = refl
tasks_many (None ∷ xs) taken = absurd taken
tasks_many (Some i ∷ xs) taken = ap suc (tasks_many xs taken)

pub none_when : {X : Type 0} (o : Option X) (P : Type 0) → (o ≡ None → P) → IfNone o P
none_when None P then = then refl
none_when (Some x) P then = tt

pub some_when : {X : Type 0} (o : Option X) (P : X → Type 0) → ((x : X) → o ≡ Some x → P x) → IfSome o P
some_when None P then = tt
some_when (Some x) P then = then x refl

pub task_at : (xs : List (Option Input)) (k : ℕ) (d : Option Input) (i : Input) → AreTaken xs → k < length xs → get_or xs k d ≡ Some i → slice_get (tasks_in xs) k ≡ Some i
task_at [] k d i taken below at = absurd (omega arith)
task_at (None ∷ xs) k d i taken below at = absurd taken
task_at (Some j ∷ xs) zero d i taken below at = at
task_at (Some j ∷ xs) (suc k) d i taken below at = task_at xs k d i taken (omega arith) at

pub none_free : (xs : List (Option Input)) (k : ℕ) (d : Option Input) → AreTaken xs → k < length xs → get_or xs k d ≡ None → ⊥
none_free [] k d taken below at = absurd (omega arith)
none_free (None ∷ xs) k d taken below at = taken
none_free (Some j ∷ xs) zero d taken below at = cc
none_free (Some j ∷ xs) (suc k) d taken below at = none_free xs k d taken (omega arith) at

taken_first : (xs ys : List (Option Input)) → AreTaken (xs ++ ys) → AreTaken xs
taken_first [] ys taken = tt
taken_first (None ∷ xs) ys taken = absurd taken
taken_first (Some i ∷ xs) ys taken = taken_first xs ys taken

module _ {kinds : Family} {places : List (Option Input)} {answers : List Answer} {given kept : ℕ} (h : IsLaidOut kinds places answers given kept) where
  kept_within : kept ≤ length places
  kept_within = let a = h.in_order in let b = h.called in let d = h.within in omega arith

  given_within : given ≤ length places
  given_within = let b = h.called in let d = h.within in omega arith

  pub kept_many : length (tasks_in (take kept places)) ≡ kept
  kept_many = tasks_many (take kept places) h.again ∙ length-take-le kept places kept_within

  pub left_many : length (tasks_in (drop given places)) ≡ length places - given
  left_many = tasks_many (drop given places) h.tasks ∙ length-drop given places

  -- one more task
  pub put_again : (i : Input) → take kept (places ++ Some i ∷ []) ≡ take kept places
  put_again i = take-append-le kept places (Some i ∷ []) kept_within

  pub put_tasks : (i : Input) → tasks_in (drop given (places ++ Some i ∷ [])) ≡ tasks_in (drop given places) ++ i ∷ []
  put_tasks i = ap tasks_in (drop-append-le given places (Some i ∷ []) given_within) ∙ tasks_append (drop given places) (Some i ∷ [])

  pub put_laid : (i : Input) → length places < 64 → IsLaidOut kinds (places ++ Some i ∷ []) answers given kept
  put_laid i room =
      let more = length-append places (Some i ∷ []) in
      let within = h.within in
      record {
        few = omega arith;
        in_order = h.in_order;
        called = h.called;
        within = omega arith;
        again = subst AreTaken (sym (put_again i)) h.again;
        tasks = subst AreTaken (sym (drop-append-le given places (Some i ∷ []) given_within)) (taken_append (drop given places) (Some i ∷ []) h.tasks tt);
        answered = subst (λ (l : List Input). AreAnswers kinds l (drop given answers)) (sym (put_tasks i)) (answers_put kinds (tasks_in (drop given places)) (drop given answers) i h.answered);
      }

  -- one more answer, to the first task that had none
  pub next_task : (i : Input) (d : Option Input) → length answers < length places → get_or places (length answers) d ≡ Some i → slice_get (tasks_in (drop given places)) (length answers - given) ≡ Some i
  next_task i d below at =
      let k = length answers - given in
      let called = h.called in
      let there : given + k ≡ length answers = omega arith in
      task_at (drop given places) k d i h.tasks (omega (arith, length-drop given places)) (get_or-drop given places k d ∙ ap (λ n. get_or places n d) there ∙ at)

  pub next_taken : (d : Option Input) → length answers < length places → get_or places (length answers) d ≡ None → ⊥
  next_taken d below at =
      let k = length answers - given in
      let called = h.called in
      let there : given + k ≡ length answers = omega arith in
      none_free (drop given places) k d h.tasks (omega (arith, length-drop given places)) (get_or-drop given places k d ∙ ap (λ n. get_or places n d) there ∙ at)

  pub call_laid : (i : Input) (d : Option Input) (a : Answer) → length answers < length places → get_or places (length answers) d ≡ Some i → a ≡ answer_to kinds i → IsLaidOut kinds places (answers ++ a ∷ []) given kept
  call_laid i d a below at is =
      let more = length-append answers (a ∷ []) in
      let called = h.called in
      let rest : length (drop given answers) ≡ length answers - given = length-drop given answers in
      record {
        few = h.few;
        in_order = h.in_order;
        called = omega arith;
        within = omega arith;
        again = h.again;
        tasks = h.tasks;
        answered = subst (λ (l : List Answer). AreAnswers kinds (tasks_in (drop given places)) l) (sym (drop-append-le given answers (a ∷ []) h.called))
            (answers_called kinds (tasks_in (drop given places)) (drop given answers) i a (ap (λ n. slice_get (tasks_in (drop given places)) n) rest ∙ next_task i d below at) is h.answered);
      }

  -- the first task stays, as another one
  pub first_place : (i : Input) (d : Option Input) → given < length answers → get_or places given d ≡ Some i → drop given places ≡ Some i ∷ drop (given + 1) places
  first_place i d below at = let within = h.within in drop_more places given d (omega arith) ∙ ap (λ (x : Option Input). x ∷ drop (given + 1) places) at

  pub first_task : (i : Input) (d : Option Input) → given < length answers → get_or places given d ≡ Some i → tasks_in (drop given places) ≡ i ∷ tasks_in (drop (given + 1) places)
  first_task i d below at = ap tasks_in (first_place i d below at)

  pub stay_laid :
      (i j : Input) (d : Option Input) (after : List (Option Input)) → given < length answers → get_or places given d ≡ Some i → take (kept + 1) after ≡ take kept places ++ Some j ∷ [] → drop (given + 1) after ≡ drop (given + 1) places → length after ≡ length places
      → IsLaidOut kinds after answers (given + 1) (kept + 1)
  stay_laid i j d after below at first rest long =
      let few = h.few in
      let order = h.in_order in
      let within = h.within in
      let here = first_place i d below at in
      let tasks : AreTaken (Some i ∷ drop (given + 1) places) = subst AreTaken here h.tasks in
      let next : drop given answers ≡ get_or answers given (answer_to kinds i) ∷ drop (given + 1) answers = drop_more answers given (answer_to kinds i) below in
      let answered : AreAnswers kinds (i ∷ tasks_in (drop (given + 1) places)) (get_or answers given (answer_to kinds i) ∷ drop (given + 1) answers) =
      subst (λ (l : List Answer). AreAnswers kinds (i ∷ tasks_in (drop (given + 1) places)) l) next (subst (λ (l : List (Option Input)). AreAnswers kinds (tasks_in l) (drop given answers)) here h.answered) in
      record {
        few = omega arith;
        in_order = omega arith;
        called = omega arith;
        within = omega arith;
        again = subst AreTaken (sym first) (taken_append (take kept places) (Some j ∷ []) h.again tt);
        tasks = subst AreTaken (sym rest) tasks;
        answered = subst (λ (l : List (Option Input)). AreAnswers kinds (tasks_in l) (drop (given + 1) answers)) (sym rest) answered.1;
      }

  -- the last of those that went out again comes back
  last_place : (k : ℕ) (d : Option Input) → k + 1 ≡ kept → take kept places ≡ take k places ++ get_or places k d ∷ []
  last_place k d is = let within = kept_within in ap (λ n. take n places) (sym is) ∙ take_more places k d (omega arith)

  pub last_taken : (k : ℕ) (d : Option Input) → k + 1 ≡ kept → get_or places k d ≡ None → ⊥
  last_taken k d is at =
      let within = kept_within in
      let all : AreTaken (take k places ++ get_or places k d ∷ []) = subst AreTaken (last_place k d is) h.again in
      let many = length-take-le k places (omega arith) in
      none_free (take k places ++ get_or places k d ∷ []) (length (take k places)) None all (omega (arith, length-append (take k places) (get_or places k d ∷ []))) (get_or-append_seam (take k places) (get_or places k d) [] None ∙ at)

  pub last_task : (k : ℕ) (d : Option Input) (i : Input) → k + 1 ≡ kept → get_or places k d ≡ Some i → tasks_in (take kept places) ≡ tasks_in (take k places) ++ i ∷ []
  last_task k d i is at = ap tasks_in (last_place k d is ∙ ap (λ (x : Option Input). take k places ++ x ∷ []) at) ∙ tasks_append (take k places) (Some i ∷ [])

  pub withdraw_laid : (k : ℕ) → k + 1 ≡ kept → IsLaidOut kinds (set places k None) answers given k
  withdraw_laid k is =
      let order = h.in_order in
      let many = length-set places k None in
      let few = h.few in
      let within = h.within in
      let same : drop given (set places k None) ≡ drop given places = drop-set-lt given places k None (omega arith) in
      record {
        few = omega arith;
        in_order = omega arith;
        called = h.called;
        within = omega arith;
        again = subst AreTaken (sym (take-set-le k places k None (omega arith))) (taken_first (take k places) (get_or places k None ∷ []) (subst AreTaken (last_place k None is) h.again));
        tasks = subst AreTaken (sym same) h.tasks;
        answered = subst (λ (l : List (Option Input)). AreAnswers kinds (tasks_in l) (drop given answers)) (sym same) h.answered;
      }

-- what lies in places before and behind one that was written and moved up
module _ (places after : List (Option Input)) (given kept : ℕ) (j : Input) (order : kept ≤ given) (within : given < length places) where
  pub moved_first : ((d : Option Input) → take (kept + 1) after ≡ take kept (set places given (Some j)) ++ get_or (set places given (Some j)) given d ∷ []) → take (kept + 1) after ≡ take kept places ++ Some j ∷ []
  moved_first first = first None ∙ ap (λ (l : List (Option Input)). l ++ get_or (set places given (Some j)) given None ∷ []) (take-set-le kept places given (Some j) order) ∙ ap (λ (x : Option Input). take kept places ++ x ∷ []) (get_or-set_same places given (Some j) None within)

  pub moved_rest : drop (given + 1) after ≡ drop (given + 1) (set places given (Some j)) → drop (given + 1) after ≡ drop (given + 1) places
  moved_rest rest = rest ∙ drop-set-lt (given + 1) places given (Some j) (omega arith)
