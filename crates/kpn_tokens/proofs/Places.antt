-- Where a byte stands first.
use Rattle.std.proofs.Common.{◌≡◌, ◌<◌, ◌≤◌, ◌+◌, ℕ, Bool, true, false, cond, nat_lt, not, inl, inr, List, [], ◌∷◌, Option, get_or, Some, None, length, refl, sym, subst, arith}
use Rattle.std.proofs.lemmas.Bool.{cases_Bool, lt-ltb, ltb-true, ltb-false}
use Rattle.std.proofs.lemmas.List.{take_all, drop_all}
use Rattle.std.proofs.lemmas.List.Sums.{position_or_len_is, prefix_len-le-length}
use Rattle.std.specs.List.{after_first, before_first, count_by, position, position_or_len}

-- where the first element stands that passes, or that none does
abbrev pub IsPlace : {X : Type 0} → (X → Bool) → List X → Option ℕ → Type 0
IsPlace test bytes None = position_or_len test bytes ≡ length bytes
IsPlace test bytes (Some place) = (place ≡ position_or_len test bytes) × (place < length bytes)

pub place_is : {X : Type 0} (test : X → Bool) (bytes : List X) (found : Option ℕ) → found ≡ position test bytes → IsPlace test bytes found
place_is test bytes found e = subst (λ (o : Option ℕ). IsPlace test bytes o) (sym e) (by_test (nat_lt (position_or_len test bytes) (length bytes)) refl)
  where
    by_test : (y : Bool) → nat_lt (position_or_len test bytes) (length bytes) ≡ y → IsPlace test bytes (cond y (Some (position_or_len test bytes)) None)
    by_test true h = (refl, ltb-true (position_or_len test bytes) (length bytes) h)
    by_test false h =
        let most : position_or_len test bytes ≤ length bytes = prefix_len-le-length (λ x. not (test x)) bytes in
        let past : length bytes ≤ position_or_len test bytes = ltb-false (position_or_len test bytes) (length bytes) h in
        omega arith

-- where none passes, all stands before the first one, and nothing after it
pub none_before : (test : ℕ → Bool) (bytes : List ℕ) → position_or_len test bytes ≡ length bytes → before_first test bytes ≡ bytes
none_before test bytes e = take_all (position_or_len test bytes) bytes (omega arith)

pub none_after : (test : ℕ → Bool) (bytes : List ℕ) → position_or_len test bytes ≡ length bytes → after_first test bytes ≡ []
none_after test bytes e = drop_all (position_or_len test bytes + 1) bytes (omega arith)

-- the first place that passes
pub position_at : {X : Type 0} (test : X → Bool) (xs : List X) (i : ℕ) (d : X) → i < length xs → ((k : ℕ) → k < i → test (get_or xs k d) ≡ false) → test (get_or xs i d) ≡ true → position test xs ≡ Some i
position_at test xs i d within before here =
    let place : position_or_len test xs ≡ i = position_or_len_is test xs i d (omega arith) before (λ past. here) in
    rw (place, lt-ltb i (length xs) within) refl

-- where none passes, as many do
none_counted : {X : Type 0} (test : X → Bool) (xs : List X) → position_or_len test xs ≡ length xs → count_by test xs ≡ 0
none_counted test [] e = refl
none_counted test (x ∷ xs) e = elim (cases_Bool (test x)) [
  | inl h ↦ absurd (omega (arith, rw h at e))
  | inr h ↦ rw h (none_counted test xs (omega (arith, rw h at e)))
]

pub none_passes_count : {X : Type 0} (test : X → Bool) (xs : List X) → position test xs ≡ None → count_by test xs ≡ 0
none_passes_count test xs e = none_counted test xs (place_is test xs None (sym e))
