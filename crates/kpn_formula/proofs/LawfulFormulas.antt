-- The law of rounds for formulas.
use Rattle.std.proofs.Common.{ℕ, ◌+◌, ◌-◌, nat_lt, if◌then◌else◌, Bool, true, false, List, [], ◌∷◌, arith, All}
use Rattle.std.proofs.lemmas.List.Elements.{All-cons, All-nil}
use Rattle.kpn_model.specs.declared.kinds.Card.{Card}
use Rattle.kpn_standard.specs.Locals.{at}
use Rattle.kpn_compute.specs.Filters.{IsWord, AreKept}
use Rattle.kpn_rounds.specs.Steps.{StepWords, AreMade}
use Rattle.kpn_formula.specs.Shapes.{ports, states_of, inputs_of, outputs_of}
use Rattle.kpn_formula.specs.Programs.{values_after}
use Rattle.kpn_formula.specs.Cards.{opening_of}
use Rattle.kpn_formula.specs.Formulas.{part, value, values, states_in, outputs_in, start, step, round_values}
use Rattle.kpn_formula.proofs.Words.{if_word, at_word, round_words, opening_words}

part_if : (b : Bool) (x : ℕ) → IsWord x → IsWord (if b then x else 0)
part_if true x word = word
part_if false x word = omega arith

part_word : (from n : ℕ) (xs : List ℕ) (i : ℕ) → All IsWord xs → IsWord (part from n xs i)
part_word from n xs i words = part_if (nat_lt i n) (at xs (from + i)) (at_word xs (from + i) words)

pub states_kept : (k : ℕ) (xs : List ℕ) → All IsWord xs → AreKept (states_in k xs)
states_kept k xs words = (part_word 0 k xs 0 words, part_word 0 k xs 1 words, part_word 0 k xs 2 words, part_word 0 k xs 3 words)

pub outputs_made : (k m : ℕ) (xs : List ℕ) → All IsWord xs → AreMade (outputs_in k m xs)
outputs_made k m xs words = (part_word k m xs 0 words, part_word k m xs 1 words, part_word k m xs 2 words)

module _ (k m n : ℕ) (kept inputs : List ℕ) (keeps : All IsWord kept) (reads : All IsWord inputs) where
  value_word : (i : ℕ) → IsWord (value k m n kept inputs i)
  value_word i = if_word (nat_lt i (k + m)) (part 0 k kept i) (part 0 n inputs (i - (k + m))) (part_word 0 k kept i keeps) (part_word 0 n inputs (i - (k + m)) reads)

  values_words : All IsWord (values k m n kept inputs)
  values_words =
      let v = λ (i : ℕ). value k m n kept inputs i in
      All-cons IsWord (v 0) (v 1 ∷ v 2 ∷ v 3 ∷ v 4 ∷ v 5 ∷ []) (value_word 0) (All-cons IsWord (v 1) (v 2 ∷ v 3 ∷ v 4 ∷ v 5 ∷ []) (value_word 1) (All-cons IsWord (v 2) (v 3 ∷ v 4 ∷ v 5 ∷ []) (value_word 2)
      (All-cons IsWord (v 3) (v 4 ∷ v 5 ∷ []) (value_word 3) (All-cons IsWord (v 4) (v 5 ∷ []) (value_word 4) (All-cons IsWord (v 5) [] (value_word 5) (All-nil IsWord))))))

four_words : (a b c d : ℕ) → IsWord a → IsWord b → IsWord c → IsWord d → All IsWord (a ∷ b ∷ c ∷ d ∷ [])
four_words a b c d p q r s = All-cons IsWord a (b ∷ c ∷ d ∷ []) p (All-cons IsWord b (c ∷ d ∷ []) q (All-cons IsWord c (d ∷ []) r (All-cons IsWord d [] s (All-nil IsWord))))

three_words : (a b c : ℕ) → IsWord a → IsWord b → IsWord c → All IsWord (a ∷ b ∷ c ∷ [])
three_words a b c p q r = All-cons IsWord a (b ∷ c ∷ []) p (All-cons IsWord b (c ∷ []) q (All-cons IsWord c [] r (All-nil IsWord)))

zeros_words : All IsWord (0 ∷ 0 ∷ 0 ∷ 0 ∷ 0 ∷ 0 ∷ [])
zeros_words = All-cons IsWord 0 (0 ∷ 0 ∷ 0 ∷ 0 ∷ 0 ∷ []) (omega arith) (All-cons IsWord 0 (0 ∷ 0 ∷ 0 ∷ 0 ∷ []) (omega arith) (four_words 0 0 0 0 (omega arith) (omega arith) (omega arith) (omega arith)))

start_kept : (card : Card) → AreKept (start card)
start_kept card = states_kept (states_of card.kind) (values_after (opening_of card) (0 ∷ 0 ∷ 0 ∷ 0 ∷ 0 ∷ 0 ∷ [])) (opening_words card (0 ∷ 0 ∷ 0 ∷ 0 ∷ 0 ∷ 0 ∷ []) zeros_words)

after_round : (card : Card) (kept inputs : List ℕ) → All IsWord kept → All IsWord inputs → All IsWord (round_values card kept inputs)
after_round card kept inputs keeps reads =
    round_words card (values (states_of card.kind) (outputs_of card.kind) (inputs_of card.kind) kept inputs) (values_words (states_of card.kind) (outputs_of card.kind) (inputs_of card.kind) kept inputs keeps reads)

-- a formula keeps words and makes words
pub formulas_lawful : StepWords ports start step
formulas_lawful =
    record {
      at_start = λ kind x y z kind_fits x_fits y_fits z_fits some. start_kept (record { kind = kind; args = x ∷ y ∷ z ∷ [] });
      after_step = λ kind x y z kind_fits x_fits y_fits z_fits some a b c d a_fits b_fits c_fits d_fits u v w u_fits v_fits w_fits.
          let card : Card = record { kind = kind; args = x ∷ y ∷ z ∷ [] } in
          let words = after_round card (a ∷ b ∷ c ∷ d ∷ []) (u ∷ v ∷ w ∷ []) (four_words a b c d a_fits b_fits c_fits d_fits) (three_words u v w u_fits v_fits w_fits) in
          (states_kept (states_of kind) (round_values card (a ∷ b ∷ c ∷ d ∷ []) (u ∷ v ∷ w ∷ [])) words, outputs_made (states_of kind) (outputs_of kind) (round_values card (a ∷ b ∷ c ∷ d ∷ []) (u ∷ v ∷ w ∷ [])) words);
    }
