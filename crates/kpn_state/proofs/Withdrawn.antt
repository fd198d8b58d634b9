-- A queue from which a process is taken.
use Rattle.std.proofs.Common.{◌≡◌, ◌≢◌, ⊎_elim, List, [], ◌∷◌, ◌++◌, length, length-append, append-nil, refl, sym, ap, ◌∙◌, arith, ℕ, zero, suc, ◌+◌, ◌-◌, ◌<◌, ◌≤◌, Bool, true, false, cond, Some, take, drop, drop-cons, add-one, slice_get, get_or}
use Rattle.std.specs.Prelude.{nat_eq, not}
use Rattle.std.proofs.lemmas.Bool.{cases_eq, eq-eqb, ne_eqb}
use Rattle.std.proofs.lemmas.List.{length-drop, length-take-le}
use Rattle.std.proofs.lemmas.List.Elements.{filter_more}
use Rattle.std.proofs.lemmas.List.Sums.{sum_by-cons}
use Rattle.kpn_state.specs.Rosters.{times, without}

abbrev other : ℕ → ℕ → Bool
other p q = not (nat_eq q p)

is_other : (p q : ℕ) → q ≢ p → other p q ≡ true
is_other p q n = ap not (ne_eqb q p n)

is_same : (p q : ℕ) → q ≡ p → other p q ≡ false
is_same p q e = ap not (eq-eqb q p e)

without_same : (p x : ℕ) (xs : List ℕ) → x ≡ p → without p (x ∷ xs) ≡ without p xs
without_same p x xs e = rw (is_same p x e) refl

without_other : (p x : ℕ) (xs : List ℕ) → x ≢ p → without p (x ∷ xs) ≡ x ∷ without p xs
without_other p x xs n = rw (is_other p x n) refl

abbrev one_if : Bool → ℕ
one_if b = cond b 1 0

-- how often a process is in a queue with one more
times_cons : (p x : ℕ) (xs : List ℕ) → times (x ∷ xs) p ≡ one_if (nat_eq x p) + times xs p
times_cons p x xs = sum_by-cons (λ y. one_if (nat_eq y p)) x xs

times_same : (p x : ℕ) (xs : List ℕ) → x ≡ p → times (x ∷ xs) p ≡ 1 + times xs p
times_same p x xs e =
    let all = times_cons p x xs in
    let one : one_if (nat_eq x p) ≡ 1 = ap one_if (eq-eqb x p e) in
    omega arith

times_other : (p x : ℕ) (xs : List ℕ) → x ≢ p → times (x ∷ xs) p ≡ times xs p
times_other p x xs n =
    let all = times_cons p x xs in
    let none : one_if (nat_eq x p) ≡ 0 = ap one_if (ne_eqb x p n) in
    omega arith

-- a process that was taken out is no longer in the queue
pub times_gone : (queue : List ℕ) (p : ℕ) → times (without p queue) p ≡ 0
times_gone [] p = refl
times_gone (x ∷ xs) p =
    ⊎_elim
    (λ (e : x ≡ p). ap (λ q. times q p) (without_same p x xs e) ∙ times_gone xs p)
    (λ (n : x ≢ p). ap (λ q. times q p) (without_other p x xs n) ∙ times_other p x (without p xs) n ∙ times_gone xs p)
    (cases_eq x p)

-- each other is in it as often as before
pub times_stays : (queue : List ℕ) (p q : ℕ) → q ≢ p → times (without p queue) q ≡ times queue q
times_stays [] p q ne = refl
times_stays (x ∷ xs) p q ne =
    ⊎_elim
    (λ (e : x ≡ p). ap (λ l. times l q) (without_same p x xs e) ∙ times_stays xs p q ne ∙ sym (times_other q x xs (λ f. ne (sym f ∙ e))))
    (λ (n : x ≢ p).
    let kept : times (without p (x ∷ xs)) q ≡ times (x ∷ without p xs) q = ap (λ l. times l q) (without_other p x xs n) in
    kept ∙ ⊎_elim
    (λ (f : x ≡ q). times_same q x (without p xs) f ∙ ap (λ k. 1 + k) (times_stays xs p q ne) ∙ sym (times_same q x xs f))
    (λ (m : x ≢ q). times_other q x (without p xs) m ∙ times_stays xs p q ne ∙ sym (times_other q x xs m))
    (cases_eq x q))
    (cases_eq x p)

-- the queue is shorter by as much as the process was in it
pub length_without : (queue : List ℕ) (p : ℕ) → length (without p queue) + times queue p ≡ length queue
length_without [] p = refl
length_without (x ∷ xs) p =
    let rest = length_without xs p in
    ⊎_elim
    (λ (e : x ≡ p). let one = times_same p x xs e in let l = ap length (without_same p x xs e) in omega arith)
    (λ (n : x ≢ p). let none = times_other p x xs n in let l : length (without p (x ∷ xs)) ≡ suc (length (without p xs)) = ap length (without_other p x xs n) in omega arith)
    (cases_eq x p)

-- a queue in which it isn't
unchanged : (queue : List ℕ) (p : ℕ) → times queue p ≡ 0 → without p queue ≡ queue
unchanged [] p h = refl
unchanged (x ∷ xs) p h =
    ⊎_elim
    (λ (e : x ≡ p). let one = times_same p x xs e in absurd (omega arith))
    (λ (n : x ≢ p). let none = times_other p x xs n in without_other p x xs n ∙ ap (λ l. x ∷ l) (unchanged xs p (omega arith)))
    (cases_eq x p)

-- a process that is at this place of the queue is in it
at_place : (queue : List ℕ) (p n : ℕ) → slice_get queue n ≡ Some p → 1 ≤ times queue p
at_place [] p n e = cc
at_place (x ∷ xs) p zero e = let s : x ≡ p = cc in let one = times_same p x xs s in omega arith
at_place (x ∷ xs) p (suc n) e =
    let rest = at_place xs p n e in
    ⊎_elim (λ (s : x ≡ p). let one = times_same p x xs s in omega arith) (λ (ne : x ≢ p). let none = times_other p x xs ne in omega arith) (cases_eq x p)

pub some_there : (queue : List ℕ) (n p : ℕ) → slice_get queue n ≡ Some p → 1 ≤ length queue
some_there [] n p e = cc
some_there (x ∷ xs) n p e = omega arith

-- if it is the last of the queue, and nowhere else, the queue without it is the queue without its last
pub last_left : (queue : List ℕ) (p n : ℕ) → length queue ≡ suc n → slice_get queue n ≡ Some p → times queue p ≡ 1 → take n queue ≡ without p queue
last_left [] p n l e once = absurd (omega arith)
last_left (x ∷ xs) p zero l e once =
    let s : x ≡ p = cc in
    let one = times_same p x xs s in
    sym (without_same p x xs s ∙ unchanged xs p (omega arith) ∙ none xs (omega arith))
  where
    none : (ys : List ℕ) → length ys ≡ 0 → ys ≡ []
    none [] h = refl
    none (y ∷ ys) h = absurd (omega arith)
last_left (x ∷ xs) p (suc n) l e once =
    let rest = at_place xs p n e in
    ⊎_elim
    (λ (s : x ≡ p). let one = times_same p x xs s in absurd (omega arith))
    (λ (ne : x ≢ p). let none = times_other p x xs ne in ap (λ l. x ∷ l) (last_left xs p n (omega arith) e (omega arith)) ∙ sym (without_other p x xs ne))
    (cases_eq x p)

-- going once through the queue: the first of what is left
pub first_left : (queue rest : List ℕ) (i : ℕ) → i < length queue → slice_get (drop i queue ++ rest) 0 ≡ Some (get_or queue i 0)
first_left queue rest i h = rw (drop-cons queue i 0) refl

-- and what is left after it
pub rest_left : (queue rest : List ℕ) (i : ℕ) → i < length queue → drop 1 (drop i queue ++ rest) ≡ drop (i + 1) queue ++ rest
rest_left queue rest i h = rw (add-one, drop-cons queue i 0) refl

-- what has been put back
pub back_other : (queue : List ℕ) (p x i : ℕ) → i < length queue → get_or queue i 0 ≡ x → x ≢ p → without p (take (i + 1) queue) ≡ without p (take i queue) ++ x ∷ []
back_other queue p x i h e n =
    filter_more (other p) queue i 0 h ∙ ap (λ b. without p (take i queue) ++ cond b (get_or queue i 0 ∷ []) []) (is_other p (get_or queue i 0) (λ f. n (sym e ∙ f))) ∙ ap (λ y. without p (take i queue) ++ y ∷ []) e

pub back_same : (queue : List ℕ) (p x i : ℕ) → i < length queue → get_or queue i 0 ≡ x → x ≡ p → without p (take (i + 1) queue) ≡ without p (take i queue)
back_same queue p x i h e s =
    filter_more (other p) queue i 0 h ∙ ap (λ b. without p (take i queue) ++ cond b (get_or queue i 0 ∷ []) []) (is_same p (get_or queue i 0) (e ∙ s)) ∙ append-nil (without p (take i queue))

-- a queue that fits keeps all when it is put back into
pub all_kept : (queue : List ℕ) (capacity : ℕ) → length queue ≤ capacity → drop (length queue - capacity) queue ≡ queue
all_kept queue capacity few = let none : length queue - capacity ≡ 0 = omega arith in ap (λ n. drop n queue) none

-- what is left and what has been put back are no more than there was
pub few_left : (queue : List ℕ) (p i : ℕ) → i < length queue → length (drop (i + 1) queue ++ without p (take i queue)) < length queue
few_left queue p i h =
    let a = length-append (drop (i + 1) queue) (without p (take i queue)) in
    let b = length-drop (i + 1) queue in
    let c = length_without (take i queue) p in
    let d = length-take-le i queue (omega arith) in
    omega arith
