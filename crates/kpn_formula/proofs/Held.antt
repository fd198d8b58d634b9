-- Numbers that hold the digits of a card.
use Rattle.std.proofs.Common.{◌≡◌, ◌∙◌, ◌⊎◌, inl, inr, ℕ, zero, suc, ◌+◌, ◌-◌, ◌*◌, ◌/◌, ◌%◌, ◌^◌, ◌<◌, ◌≤◌, length, drop, refl, sym, ap, subst, arith}
use native.Mathlib.Nat.{zero-div, div-one, div-div-eq-div-mul}
use Rattle.std.proofs.lemmas.Nat.{pow-add}
use Rattle.std.proofs.lemmas.List.{get_or_past}
use Rattle.kpn_model.specs.declared.kinds.Card.{Card}
use Rattle.kpn_standard.specs.Locals.{at}
use Rattle.kpn_formula.specs.declared.instruction.Instruction.TheVariants.{Push, Times, Shift}
use Rattle.kpn_formula.specs.Cards.{digit, digits, three, extended, instruction, operands}
use Rattle.kpn_formula.specs.Reading.{StandsAt, EndsAt, HoldsFrom, IsCode, first_three, behind_operands}
use Rattle.kpn_formula.proofs.Places.{first_digit, stands_here, ends_here, ends_past}

-- what stands above twelve digits does not change them
below_others : (n y k : ℕ) → k < 12 → (n % 2 ^ 60 + 2 ^ 60 * y) / 32 ^ k % 32 ≡ n / 32 ^ k % 32
below_others n y zero less = omega arith
below_others n y (suc zero) less = omega arith
below_others n y (suc (suc zero)) less = omega arith
below_others n y (suc (suc (suc zero))) less = omega arith
below_others n y (suc (suc (suc (suc zero)))) less = omega arith
below_others n y (suc (suc (suc (suc (suc zero))))) less = omega arith
below_others n y (suc (suc (suc (suc (suc (suc zero)))))) less = omega arith
below_others n y (suc (suc (suc (suc (suc (suc (suc zero))))))) less = omega arith
below_others n y (suc (suc (suc (suc (suc (suc (suc (suc zero)))))))) less = omega arith
below_others n y (suc (suc (suc (suc (suc (suc (suc (suc (suc zero))))))))) less = omega arith
below_others n y (suc (suc (suc (suc (suc (suc (suc (suc (suc (suc zero)))))))))) less = omega arith
below_others n y (suc (suc (suc (suc (suc (suc (suc (suc (suc (suc (suc zero))))))))))) less = omega arith
below_others n y (suc (suc (suc (suc (suc (suc (suc (suc (suc (suc (suc (suc k)))))))))))) less = absurd (omega arith)

behind_twelve : (n k : ℕ) → n / 32 ^ (12 + k) ≡ n / 2 ^ 60 / 32 ^ k
behind_twelve n k = ap (λ m. n / m) (pow-add 32 12 k) ∙ sym (div-div-eq-div-mul n (2 ^ 60) (32 ^ k))

pub split : (n m : ℕ) → (n < m) ⊎ (m ≤ n)
split n m = grind arith

module _ (card : Card) (args : length card.args ≡ 3) where
  abbrev number : ℕ
  number = at card.args 0 % 2 ^ 60 + 2 ^ 60 * (at card.args 1 % 2 ^ 60 + 2 ^ 60 * (at card.args 2 % 2 ^ 60))

  argument_digit : (i j : ℕ) → j < 12 → digit card (12 * i + j) ≡ at card.args i / 32 ^ j % 32
  argument_digit i j less =
      let argument : (12 * i + j) / 12 ≡ i = omega arith in
      let place : (12 * i + j) % 12 ≡ j = omega arith in
      ap (λ k. at card.args k / 32 ^ ((12 * i + j) % 12) % 32) argument ∙ ap (λ k. at card.args i / 32 ^ k % 32) place

  none_behind : (k : ℕ) → 36 ≤ k → digit card k ≡ 0
  none_behind k past = ap (λ n. n / 32 ^ (k % 12) % 32) (get_or_past card.args (k / 12) 0 (omega (arith, args))) ∙ ap (λ n. n % 32) (zero-div (32 ^ (k % 12)))

  second_number : number / 2 ^ 60 ≡ at card.args 1 % 2 ^ 60 + 2 ^ 60 * (at card.args 2 % 2 ^ 60)
  second_number = omega arith

  third_number : number / 2 ^ 60 / 2 ^ 60 ≡ at card.args 2 % 2 ^ 60 + 2 ^ 60 * 0
  third_number = omega arith

  no_number : number / 2 ^ 60 / 2 ^ 60 / 2 ^ 60 ≡ 0
  no_number = omega arith

  first_digits : (k : ℕ) → k < 12 → digit card k ≡ number / 32 ^ k % 32
  first_digits k less = ap (λ j. digit card j) (omega arith) ∙ argument_digit 0 k less ∙ sym (below_others (at card.args 0) _ k less)

  second_digits : (k : ℕ) → k < 12 → digit card (12 + k) ≡ number / 32 ^ (12 + k) % 32
  second_digits k less =
      argument_digit 1 k less
      ∙ sym (ap (λ n. n % 32) (behind_twelve number k ∙ ap (λ n. n / 32 ^ k) second_number) ∙ below_others (at card.args 1) _ k less)

  third_digits : (k : ℕ) → k < 12 → digit card (12 + (12 + k)) ≡ number / 32 ^ (12 + (12 + k)) % 32
  third_digits k less =
      ap (λ j. digit card j) (omega arith)
      ∙ argument_digit 2 k less
      ∙ sym (ap (λ n. n % 32) (behind_twelve number (12 + k) ∙ behind_twelve (number / 2 ^ 60) k ∙ ap (λ n. n / 32 ^ k) third_number) ∙ below_others (at card.args 2) 0 k less)

  no_digits : (k : ℕ) → digit card (12 + (12 + (12 + k))) ≡ number / 32 ^ (12 + (12 + (12 + k))) % 32
  no_digits k =
      none_behind (12 + (12 + (12 + k))) (omega arith)
      ∙ sym (ap (λ n. n % 32) (behind_twelve number (12 + (12 + k)) ∙ behind_twelve (number / 2 ^ 60) (12 + k) ∙ behind_twelve (number / 2 ^ 60 / 2 ^ 60) k ∙ ap (λ n. n / 32 ^ k) no_number ∙ zero-div (32 ^ k)))

  abbrev Has : ℕ → Type 0
  Has k = digit card k ≡ number / 32 ^ k % 32

  has_third : (k : ℕ) → Has (12 + (12 + k))
  has_third k = elim (split k 12) [ inl less ↦ third_digits k less | inr past ↦ subst (λ j. Has (12 + (12 + j))) (omega arith) (no_digits (k - 12)) ]

  has_second : (k : ℕ) → Has (12 + k)
  has_second k = elim (split k 12) [ inl less ↦ second_digits k less | inr past ↦ subst (λ j. Has (12 + j)) (omega arith) (has_third (k - 12)) ]

  has : (k : ℕ) → Has k
  has k = elim (split k 12) [ inl less ↦ first_digits k less | inr past ↦ subst Has (omega arith) (has_second (k - 12)) ]

  pub starts : (n : ℕ) → n ≡ number → HoldsFrom card 0 n
  starts n is = record { arguments = args; digits = λ k. ap (λ j. digit card j) (omega arith) ∙ has k ∙ ap (λ m. m / 32 ^ k % 32) (sym is) }

-- behind m digits
pub moved : (card : Card) (p m n : ℕ) → HoldsFrom card p n → HoldsFrom card (p + m) (n / 32 ^ m)
moved card p m n held =
    record {
      arguments = held.arguments;
      digits =
          λ k. ap (λ j. digit card j) (omega arith)
          ∙ held.digits (m + k)
          ∙ ap (λ d. n / d % 32) (pow-add 32 m k)
          ∙ sym (ap (λ d. d % 32) (div-div-eq-div-mul n (32 ^ m) (32 ^ k)));
    }

pub moved_one : (card : Card) (p n : ℕ) → HoldsFrom card p n → HoldsFrom card (p + 1) (n / 32)
moved_one card p n held = moved card p 1 n held

module _ (card : Card) (p n : ℕ) (held : HoldsFrom card p n) where
  here : digit card p ≡ n % 32
  here = ap (λ j. digit card j) (omega arith) ∙ held.digits 0 ∙ ap (λ d. d % 32) (div-one n)

  pub ends : n % 32 ≡ 0 → EndsAt card p
  ends none = elim (split p 36) [ inl less ↦ ends_here card p held.arguments less (here ∙ none) | inr past ↦ ends_past card p past ]

  within : (code : ℕ) → IsCode n code → p < 36
  within code found = elim (split p 36) [ inl less ↦ less | inr past ↦ absurd (found.goes_on (found.is ∙ sym here ∙ none_behind card held.arguments p past)) ]

  pub stands : (code : ℕ) → IsCode n code → StandsAt card p code
  stands code found = stands_here card p code held.arguments (within code found) (found.is ∙ sym here) found.small found.goes_on

  coming : (k : ℕ) → at (drop p (digits card)) k ≡ n / 32 ^ k % 32
  coming k = first_digit card p k held.arguments ∙ held.digits k

  coming_first : at (drop p (digits card)) 0 ≡ n % 32
  coming_first = coming 0 ∙ ap (λ d. d % 32) (div-one n)

  coming_three : three (drop p (digits card)) ≡ three (first_three n)
  coming_three = rw (coming_first, coming 1, coming 2) refl

  pub same_instruction : (code : ℕ) → instruction code (drop p (digits card)) ≡ instruction code (first_three n)
  same_instruction zero = refl
  same_instruction (suc zero) = ap (λ d. Push d) coming_first
  same_instruction (suc (suc zero)) = ap (λ m. Push (extended m)) coming_three
  same_instruction (suc (suc (suc zero))) = ap (λ m. Times (extended m)) coming_three
  same_instruction (suc (suc (suc (suc zero)))) = ap (λ d. Shift d) coming_first
  same_instruction (suc (suc (suc (suc (suc code))))) = refl

behind_is : (code n : ℕ) → behind_operands code n ≡ n / 32 ^ operands code
behind_is zero n = sym (div-one n)
behind_is (suc zero) n = refl
behind_is (suc (suc zero)) n = refl
behind_is (suc (suc (suc zero))) n = refl
behind_is (suc (suc (suc (suc zero)))) n = refl
behind_is (suc (suc (suc (suc (suc code))))) n = sym (div-one n)

pub behind_held : (card : Card) (p code n : ℕ) → HoldsFrom card p n → HoldsFrom card (p + operands code) (behind_operands code n)
behind_held card p code n held = subst (λ m. HoldsFrom card (p + operands code) m) (sym (behind_is code n)) (moved card p (operands code) n held)
