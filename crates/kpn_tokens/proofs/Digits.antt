-- Digits, and the numbers that they say.
use Rattle.std.proofs.Common.{◌≡◌, ◌<◌, ◌≤◌, ◌+◌, ◌-◌, ◌*◌, ◌/◌, ◌%◌, ◌^◌, ◌++◌, ℕ, zero, suc, List, [], ◌∷◌, refl, arith}
use Rattle.std.proofs.lemmas.Grind.{common_steps}
use Rattle.std.proofs.Math.Nat.{le-mul_of_pos_right, one-le-pow}
use Rattle.std.specs.Char.{digit_value}
use Rattle.std.specs.Str.Parse.{digits_value, digits_value_after}
use Rattle.kpn_tokens.specs.Numbers.{last_digits}

-- more digits make no number less
pub after_grows : (base n : ℕ) (digits : List ℕ) → 0 < base → n ≤ digits_value_after base n digits
after_grows base n [] h = omega arith
after_grows base n (c ∷ cs) h =
    let more = after_grows base (n * base + digit_value c) cs h in
    let least : n ≤ n * base = le-mul_of_pos_right n h in
    omega arith

-- the value of a digit is small, and so are all numbers in base 0
digit_small : (c : ℕ) → digit_value c < 2 ^ 64
digit_small c = grind (arith, common_steps)

pub based : (base n : ℕ) (digits : List ℕ) → n < 2 ^ 64 → (digits_value_after base n digits < 2 ^ 64 → ⊥) → 0 < base
based zero n [] small great = absurd (great small)
based zero n (c ∷ cs) small great = based zero (n * 0 + digit_value c) cs (omega (arith, digit_small c)) great
based (suc k) n digits small great = omega arith

-- digits after other ones
pub after_both : (base n : ℕ) (some more : List ℕ) → digits_value_after base n (some ++ more) ≡ digits_value_after base (digits_value_after base n some) more
after_both base n [] more = refl
after_both base n (c ∷ cs) more = after_both base (n * base + digit_value c) cs more

-- and zeros after them
pub zeros_grow : (n zeros : ℕ) → n ≤ n * 10 ^ zeros
zeros_grow n zeros = le-mul_of_pos_right n (one-le-pow zeros 10 (omega arith))

-- too many digits before the point make too great a number
pub whole_too_great : (base zeros most : ℕ) (whole part : List ℕ) → 0 < base → (digits_value base whole < most → ⊥) → digits_value base (whole ++ part) * 10 ^ zeros < most → ⊥
whole_too_great base zeros most whole part h great small =
    let both = after_both base 0 whole part in
    let more = after_grows base (digits_value base whole) part h in
    let zeros_more = zeros_grow (digits_value base (whole ++ part)) zeros in
    great (omega arith)

-- the last digit of a number comes after those of its tenth
pub last_step : (count n : ℕ) → 0 < count → last_digits count n ≡ last_digits (count - 1) (n / 10) ++ (48 + n % 10) ∷ []
last_step zero n h = absurd (omega arith)
last_step (suc k) n h =
    let one_less : suc k - 1 ≡ k = omega arith in
    rw one_less refl
