-- The digits of a card one by one.
use Rattle.std.proofs.Common.{◌≡◌, ◌∙◌, ◌⊎◌, inl, inr, ℕ, zero, suc, ◌+◌, ◌*◌, ◌/◌, ◌%◌, ◌^◌, ◌<◌, ◌≤◌, false, List, [], ◌∷◌, length, drop, refl, sym, ap, arith, rules}
use Rattle.std.proofs.Math.Nat.{zero-div, pow-suc}
use Rattle.std.proofs.lemmas.Nat.{pow-add}
use Rattle.std.proofs.lemmas.List.{drop_more, drop_all, get_or_past, get_or-drop, drop-drop}
use Rattle.std.proofs.lemmas.Bool.Decides.{nat_tests}
use Rattle.std.proofs.lemmas.List.Elements.{All-get_or, All-from_recursion}
use Rattle.kpn_model.specs.declared.kinds.Card.{Card}
use Rattle.kpn_standard.specs.Locals.{at}
use Rattle.kpn_formula.specs.declared.instruction.Instruction.{Instruction}
use Rattle.kpn_formula.specs.declared.instruction.Instruction.TheVariants.{End}
use Rattle.kpn_formula.specs.Cards.{digit, digits_from, digits, three, extended, meanings, instruction, operands, instructions, is_end, before_end, after_end}
use Rattle.kpn_formula.specs.Reading.{program_at, StandsAt, EndsAt}

from_length : (card : Card) (i n : ℕ) → length (digits_from card i n) ≡ n
from_length card i zero = refl
from_length card i (suc n) = ap suc (from_length card (i + 1) n)

pub digits_length : (card : Card) → length (digits card) ≡ 36
unfolding digits
digits_length card = from_length card 0 36

from_at : (card : Card) (i n k : ℕ) → k < n → at (digits_from card i n) k ≡ digit card (i + k)
from_at card i zero k below = absurd (omega arith)
from_at card i (suc n) zero below = ap (λ j. digit card j) (omega arith)
from_at card i (suc n) (suc k) below = from_at card (i + 1) n k (omega arith) ∙ ap (λ j. digit card j) (omega arith)

within_at : (card : Card) (k : ℕ) → k < 36 → at (digits card) k ≡ digit card k
unfolding digits
within_at card k below = from_at card 0 36 k below ∙ ap (λ j. digit card j) (omega arith)

zero_digit : (n : ℕ) → 0 / n % 32 ≡ 0
zero_digit n = rw zero-div refl

-- beyond digit 35 all are 0
past_at : (card : Card) (k : ℕ) → length card.args ≡ 3 → 36 ≤ k → at (digits card) k ≡ digit card k
past_at card k three past =
    get_or_past (digits card) k 0 (omega (arith, digits_length card))
    ∙ sym (ap (λ n. n / 32 ^ (k % 12) % 32) (get_or_past card.args (k / 12) 0 (omega (arith, three))) ∙ zero_digit (32 ^ (k % 12)))

pub digit_at : (card : Card) (k : ℕ) → length card.args ≡ 3 → at (digits card) k ≡ digit card k
digit_at card k three = elim (split k) [ inl below ↦ within_at card k below | inr past ↦ past_at card k three past ]
  where
    split : (n : ℕ) → (n < 36) ⊎ (36 ≤ n)
    split n = grind arith

-- the first of the digits from a place on
pub first_digit : (card : Card) (p k : ℕ) → length card.args ≡ 3 → at (drop p (digits card)) k ≡ digit card (p + k)
first_digit card p k three = get_or-drop p (digits card) k 0 ∙ digit_at card (p + k) three

five_bits : (k : ℕ) → 2 ^ (5 * k) ≡ 32 ^ k
five_bits zero = refl
five_bits (suc k) =
    let more : 5 * suc k ≡ 5 + 5 * k = omega arith in
    let split : 2 ^ (5 * suc k) ≡ 32 * 2 ^ (5 * k) = ap (λ n. 2 ^ n) more ∙ pow-add 2 5 (5 * k) in
    omega (arith, split, five_bits k, pow-suc 32 k)

-- three digits as a word
module _ (card : Card) (p : ℕ) (args : length card.args ≡ 3) (a b c : ℕ) (a_is : a ≡ digit card p) (b_is : b ≡ digit card (p + 1)) (c_is : c ≡ digit card (p + 2)) where
  three_is : three (drop p (digits card)) ≡ a + 32 * b + 1024 * c
  three_is =
      let first : at (drop p (digits card)) 0 ≡ a = first_digit card p 0 args ∙ ap (λ k. digit card k) (omega arith) ∙ sym a_is in
      let second : at (drop p (digits card)) 1 ≡ b = first_digit card p 1 args ∙ sym b_is in
      let last : at (drop p (digits card)) 2 ≡ c = first_digit card p 2 args ∙ sym c_is in
      rw (first, second, last) refl

  pub short_number : a + 32 * b + 1024 * c < 16384 → a + 32 * b + 1024 * c ≡ extended (three (drop p (digits card)))
  short_number small = sym (ap (λ n. extended n) three_is ∙ short (a + 32 * b + 1024 * c) small)
    where
      short : (n : ℕ) → n < 16384 → extended n ≡ n
      short n less = grind (arith, nat_tests)

  pub long_number : 16384 ≤ a + 32 * b + 1024 * c → a + 32 * b + 1024 * c + 18446744073709518848 ≡ extended (three (drop p (digits card)))
  long_number large = sym (ap (λ n. extended n) three_is ∙ long (a + 32 * b + 1024 * c) large)
    where
      long : (n : ℕ) → 16384 ≤ n → extended n ≡ n + 18446744073709518848
      long n more = grind (arith, nat_tests)

-- a shift by five bits a digit
pub digit_shifted : (n k : ℕ) → n / 2 ^ (5 * k) % 32 ≡ n / 32 ^ k % 32
digit_shifted n k = ap (λ d. n / d % 32) (five_bits k)

skipped : (n : ℕ) (ds : List ℕ) → instructions n ds ≡ instructions 0 (drop n ds)
skipped zero [] = refl
skipped zero (d ∷ ds) = refl
skipped (suc n) [] = refl
skipped (suc n) (d ∷ ds) = skipped n ds

-- an instruction at a place, and what stands behind it
pub program_step : (card : Card) (p : ℕ) → length card.args ≡ 3 → p < 36 → program_at card p ≡ instruction (digit card p) (drop (p + 1) (digits card)) ∷ program_at card (p + 1 + operands (digit card p))
program_step card p three below =
    let here : drop p (digits card) ≡ digit card p ∷ drop (p + 1) (digits card) =
    drop_more (digits card) p 0 (omega (arith, digits_length card)) ∙ ap (λ d. d ∷ drop (p + 1) (digits card)) (within_at card p below) in
    ap (λ ds. instructions 0 ds) here
    ∙ ap (λ is. instruction (digit card p) (drop (p + 1) (digits card)) ∷ is)
    (skipped (operands (digit card p)) (drop (p + 1) (digits card)) ∙ ap (λ ds. instructions 0 ds) (drop-drop (operands (digit card p)) (p + 1) (digits card)))

-- behind the last digit there is nothing
nothing_at : (card : Card) (p : ℕ) → 36 ≤ p → program_at card p ≡ []
nothing_at card p past = ap (λ ds. instructions 0 ds) (drop_all p (digits card) (omega (arith, digits_length card)))

pub ends_past : (card : Card) (p : ℕ) → 36 ≤ p → EndsAt card p
ends_past card p past =
    record {
      before = ap (λ is. before_end is) (nothing_at card p past);
      after = ap (λ is. after_end is) (nothing_at card p past) ∙ sym (nothing_at card (p + 1) (omega arith));
    }

pub ends_here : (card : Card) (p : ℕ) → length card.args ≡ 3 → p < 36 → digit card p ≡ 0 → EndsAt card p
ends_here card p three below end =
    let is : program_at card p ≡ End ∷ program_at card (p + 1) =
    program_step card p three below
    ∙ ap (λ code. instruction code (drop (p + 1) (digits card)) ∷ program_at card (p + 1 + operands code)) end
    ∙ ap (λ q. End ∷ program_at card q) (omega arith) in
    record { before = ap (λ is. before_end is) is; after = ap (λ is. after_end is) is }

-- only code 0 is an End
goes_on_from : (code : ℕ) (ds : List ℕ) → code < 32 → (code ≡ 0 → ⊥) → is_end (instruction code ds) ≡ false
goes_on_from zero ds small other = absurd (other refl)
goes_on_from (suc k) ds small other =
    let P = λ (i : Instruction). is_end i ≡ false in
    All-get_or P (drop 1 (meanings ds)) k End (omega arith) (All-from_recursion P (drop 1 (meanings ds)) (search rules))

pub stands_here : (card : Card) (p code : ℕ) → length card.args ≡ 3 → p < 36 → code ≡ digit card p → code < 32 → (code ≡ 0 → ⊥) → StandsAt card p code
stands_here card p code three below is small other =
    record {
      is = program_step card p three below ∙ ap (λ d. instruction d (drop (p + 1) (digits card)) ∷ program_at card (p + 1 + operands d)) (sym is);
      goes_on = goes_on_from code (drop (p + 1) (digits card)) small other;
      within = below;
    }
