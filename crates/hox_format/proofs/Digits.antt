-- Numbers in digits.
use Rattle.std.proofs.Common.{◌≡◌, ◌<◌, ◌≤◌, ◌^◌, ℕ, true, inl, inr, List, Err, None, length, nat_le, nat_lt, refl, rules, arith}
use Rattle.std.proofs.lemmas.Bool.{cases_Bool, leb-true, ltb-true}
use Rattle.std.proofs.lemmas.Str.Parse.{IsNumeralModel, numerals_by_value, parse_digits}
use Rattle.std.specs.Char.{is_ascii_digit}
use Rattle.std.specs.List.{list_all}
use Rattle.std.specs.Str.Parse.{ParsesUnsigned, digits_value}
use Rattle.hox_format.specs.Saying.{is_number, number_said}

numerals : IsNumeralModel (λ ds. list_all is_ascii_digit ds ≡ true) (digits_value 10)
numerals = numerals_by_value _ (search rules)

-- digits that are not read say more than any number of 64 bits
pub unread : {E : Type 0} (most : ℕ) (text : List ℕ) (e : E) → most < 2 ^ 64 → is_number text ≡ true → ParsesUnsigned 64 10 text (Err e) → number_said most text ≡ None
unread {E} most text e small digits h = elim (cases_Bool (nat_le (digits_value 10 text) most)) [
  | inl within ↦
      let few : digits_value 10 text ≤ most = leb-true (digits_value 10 text) most within in
      absurd (parse_digits numerals {E = E} 64 text (Err e) h (all_digits text digits) (some_digit text digits, omega arith))
  | inr past ↦ rw (digits, past) refl
]
  where
    all_digits : (text : List ℕ) → is_number text ≡ true → list_all is_ascii_digit text ≡ true
    all_digits text digits = elim (cases_Bool (nat_lt 0 (length text))) [ inl h ↦ rw h at digits | inr h ↦ cc (rw h at digits) ]

    some_digit : (text : List ℕ) → is_number text ≡ true → 0 < length text
    some_digit text digits = elim (cases_Bool (nat_lt 0 (length text))) [ inl h ↦ ltb-true 0 (length text) h | inr h ↦ absurd (cc (rw h at digits)) ]
