-- Lists of slots and of seats, read from the back.
use Rattle.std.proofs.Common.{◌≡◌, ℕ, ◌+◌, ◌<◌, suc, List, [], ◌∷◌, ◌++◌, length, take, drop, refl, subst, arith, length-append}
use Rattle.std.specs.Prelude.{slice_index_or, slice_get, Option, Some, None, IfNone, IsSome, IsNone, Result, Err, IsOk}
use Rattle.std.specs.List.{All, sum_by}
use Rattle.std.specs.Option.{option_or}
use Rattle.std.proofs.lemmas.List.{get_or_append_left}
use Rattle.std.proofs.Math.Seq.{get_or-append_seam, take-append_seam}
use Rattle.std.proofs.lemmas.List.Sums.{sum_by-append, sum_by-cons}
use Rattle.std.proofs.lemmas.List.Elements.{All-append}
use Rattle.kpn_monitor.specs.Views.{Shares}
use Rattle.kpn_monitor.proofs.Handing.{one_at}
use Rattle.kpn_run.specs.Runs.{AtSlot, HasMet}

all_front : {X : Type 0} (P : X → Type 0) (xs ys : List X) → All P (xs ++ ys) → All P xs
all_front P xs ys h = λ k d lt. subst P (get_or_append_left xs ys d k lt) (h k d (omega (arith, lt, length-append xs ys)))

all_last : {X : Type 0} (P : X → Type 0) (xs : List X) (y : X) → All P (xs ++ y ∷ []) → P y
all_last P xs y h = subst P (get_or-append_seam xs y [] y) (h (length xs) y (omega (arith, length-append xs (y ∷ []))))

pub front_met : (all rest : List AtSlot) (b : AtSlot) → all ≡ rest ++ b ∷ [] → All HasMet all → All HasMet rest
front_met all rest b is met = all_front HasMet rest (b ∷ []) (rw is at met)

pub last_met : (all rest : List AtSlot) (b : AtSlot) → all ≡ rest ++ b ∷ [] → All HasMet all → HasMet b
last_met all rest b is met = all_last HasMet rest b (rw is at met)

pub sum_more : {X : Type 0} (f : X → ℕ) (xs ys : List X) (y : X) → xs ≡ ys ++ y ∷ [] → sum_by f xs ≡ sum_by f ys + f y
sum_more f xs ys y is = rw is (omega (arith, sum_by-append f ys (y ∷ [])))

pub length_more : {X : Type 0} (xs ys : List X) (y : X) → xs ≡ ys ++ y ∷ [] → length xs ≡ length ys + 1
length_more xs ys y is = rw is (omega (arith, length-append ys (y ∷ [])))

pub all_more : (seats more : List Shares) (s : Shares) → more ≡ seats ++ s ∷ [] → All (λ (x : Shares). x.overs ≡ 1) seats → s.overs ≡ 1 → All (λ (x : Shares). x.overs ≡ 1) more
all_more seats more s is all one = rw is (All-append (λ (x : Shares). x.overs ≡ 1) seats (s ∷ []) all (one_at (λ (x : Shares). x.overs ≡ 1) s one))

-- one more seat: its worker has met an end, or an answer of the worker was refused
pub none_more : {F : Type 0} (answer refused : Option F) (seats more : List Shares) (s : Shares) → more ≡ seats ++ s ∷ []
    → IfNone refused (All (λ (x : Shares). x.overs ≡ 1) seats) → (answer ≡ None → s.overs ≡ 1) → IfNone (option_or answer refused) (All (λ (x : Shares). x.overs ≡ 1) more)
none_more None None seats more s is all met = all_more seats more s is all (met refl)
none_more None (Some f) seats more s is all met = tt
none_more (Some f) refused seats more s is all met = tt

pub sums_same : {X : Type 0} (f : X → ℕ) (xs ys : List X) → length ys ≡ length xs → ((k : ℕ) (d : X) → k < length xs → f (slice_index_or ys k d) ≡ f (slice_index_or xs k d)) → sum_by f ys ≡ sum_by f xs
sums_same f [] [] len each = refl
sums_same f [] (y ∷ ys) len each = absurd (omega (arith, len))
sums_same f (x ∷ xs) [] len each = absurd (omega (arith, len))
sums_same f (x ∷ xs) (y ∷ ys) len each =
    let one : f y ≡ f x = each 0 x (omega arith) in
    let rest = sums_same f xs ys (omega (arith, len)) (λ k d lt. each (suc k) d (omega arith)) in
    omega (arith, one, rest, sum_by-cons f x xs, sum_by-cons f y ys)

-- if there is a seat and each has met an end, some seat has met one
pub some_met : (P : Type 0) (seats : List Shares) → 0 < length seats → All (λ (x : Shares). x.overs ≡ 1) seats
    → ((k : ℕ) (s : Shares) → slice_get seats k ≡ Some s → s.overs ≡ 1 → P) → P
some_met P [] some all told = absurd (omega arith)
some_met P (s ∷ seats) some all told = told 0 s refl (all 0 s (omega arith))

pub slice_back : {X : Type 0} (w old : List X) (n : ℕ) → length w ≡ n → take n (w ++ drop (length w) old) ≡ w
slice_back w old n p = rw (← p) (take-append_seam w (drop (length w) old))

pub not_refused : {A : Type 0} {E : Type 0} (r : Result A E) (e : E) → r ≡ Err e → IsOk r → ⊥
not_refused r e is ok = let w = rw is at ok in absurd (cc)

pub not_open : {A : Type 0} (o : Option A) → IsSome o → IsNone o → ⊥
not_open None some none = absurd (cc)
not_open (Some x) some none = absurd (cc)
