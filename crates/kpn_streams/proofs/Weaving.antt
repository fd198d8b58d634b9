-- What weave writes, and that it takes turns.
use Rattle.std.proofs.Common.{◌≡◌, ◌+◌, ◌-◌, ◌≤◌, ℕ, zero, suc, nat_lt, List, [], ◌∷◌, ◌++◌, length, refl, ap, ◌∙◌, arith, lt-ltb, le-ltb, None}
use Rattle.kpn_model.specs.declared.token.Token.TheVariants.{Word}
use Rattle.kpn_model.specs.declared.kinds.Card.{Card}
use Rattle.kpn_model.specs.declared.history.Status.TheVariants.{Live}
use Rattle.kpn_standard.specs.declared.kind.Kind.TheVariants.{Weave}
use Rattle.kpn_standard.specs.Locals.{two}
use Rattle.kpn_standard.specs.Signatures.{card_of_kind}
use Rattle.kpn_standard.specs.Standard.{standard}
use Rattle.kpn_streams.specs.Fed.{WritesFrom}
use Rattle.kpn_streams.specs.Functions.{words, woven_first, woven_second}
use Rattle.kpn_streams.specs.Kinds.{WeaveWrites, WeaveTakesTurns}
use Rattle.kpn_streams.proofs.Fed.{chosen, chosen_else, waits, reads, puts}

module _ (a b : ℕ) (others : List ℕ) where
  abbrev weaver : Card
  weaver = card_of_kind Weave (a ∷ b ∷ others)

  -- the second stream's turn, after i of its words and with `left` more after the next; what is written in the first one's turn is
  -- known
  second_turn :
      (xs : List ℕ) (first : List ℕ → List ℕ)
      → ((ys : List ℕ) → WritesFrom standard weaver (Live (two 0 0) None) (words xs ∷ words ys ∷ []) (words (first ys) ∷ []))
      → (ys : List ℕ) (i left : ℕ) → i + left ≡ b - 1
      → WritesFrom standard weaver (Live (two 2 i) None) (words xs ∷ words ys ∷ []) (words (woven_second first left ys) ∷ [])
  second_turn xs first then_first [] i left all = waits standard weaver (two 3 i) 1 refl refl refl
  second_turn xs first then_first (y ∷ ys) i zero all =
      reads standard weaver (two 3 i) 1 (Word y) (words ys) refl refl
      (puts standard weaver (two 0 0) (Word y) (chosen_else (nat_lt (i + 1) b) _ _ (le-ltb (i + 1) b (omega arith))) (then_first ys))
  second_turn xs first then_first (y ∷ ys) i (suc left) all =
      reads standard weaver (two 3 i) 1 (Word y) (words ys) refl refl
      (puts standard weaver (two 2 (i + 1)) (Word y) (chosen (nat_lt (i + 1) b) _ _ (lt-ltb (i + 1) b (omega arith)))
      (second_turn xs first then_first ys (i + 1) left (omega arith)))

  -- the first stream's turn
  first_turn :
      (xs ys : List ℕ) (i left : ℕ) → i + left ≡ a - 1
      → WritesFrom standard weaver (Live (two 0 i) None) (words xs ∷ words ys ∷ []) (words (woven_first a b left xs ys) ∷ [])
  first_turn [] ys i left all = waits standard weaver (two 1 i) 0 refl refl refl
  first_turn (x ∷ xs) ys i zero all =
      reads standard weaver (two 1 i) 0 (Word x) (words xs) refl refl
      (puts standard weaver (two 2 0) (Word x) (chosen_else (nat_lt (i + 1) a) _ _ (le-ltb (i + 1) a (omega arith)))
      (second_turn xs (woven_first a b (a - 1) xs) (λ zs. first_turn xs zs 0 (a - 1) (omega arith)) ys 0 (b - 1) (omega arith)))
  first_turn (x ∷ xs) ys i (suc left) all =
      reads standard weaver (two 1 i) 0 (Word x) (words xs) refl refl
      (puts standard weaver (two 0 (i + 1)) (Word x) (chosen (nat_lt (i + 1) a) _ _ (lt-ltb (i + 1) a (omega arith)))
      (first_turn xs ys (i + 1) left (omega arith)))

-- weave writes words of both in turn
pub weave_writes : WeaveWrites
weave_writes a b others xs ys = first_turn a b others xs ys 0 (a - 1) (omega arith)

-- the second stream's turn comes to its end
second_round :
    (first : List ℕ → List ℕ) (vs ys : List ℕ) (left : ℕ) → length vs ≡ suc left → woven_second first left (vs ++ ys) ≡ vs ++ first ys
second_round first [] ys left full = absurd (omega arith)
second_round first (v ∷ []) ys zero full = refl
second_round first (v ∷ w ∷ vs) ys zero full = absurd (omega arith)
second_round first (v ∷ vs) ys (suc left) full = ap (λ l. v ∷ l) (second_round first vs ys left (omega arith))

-- or the stream ends before
second_short : (first : List ℕ → List ℕ) (ys : List ℕ) (left : ℕ) → length ys ≤ left → woven_second first left ys ≡ ys
second_short first [] left few = refl
second_short first (y ∷ ys) zero few = absurd (omega arith)
second_short first (y ∷ ys) (suc left) few = ap (λ l. y ∷ l) (second_short first ys left (omega arith))

module _ (a b : ℕ) where
  -- the first stream's turn comes to its end
  first_round :
      (us xs ys : List ℕ) (left : ℕ) → length us ≡ suc left
      → woven_first a b left (us ++ xs) ys ≡ us ++ woven_second (woven_first a b (a - 1) xs) (b - 1) ys
  first_round [] xs ys left full = absurd (omega arith)
  first_round (u ∷ []) xs ys zero full = refl
  first_round (u ∷ v ∷ us) xs ys zero full = absurd (omega arith)
  first_round (u ∷ us) xs ys (suc left) full = ap (λ l. u ∷ l) (first_round us xs ys left (omega arith))

  -- or the stream ends before
  first_short : (xs ys : List ℕ) (left : ℕ) → length xs ≤ left → woven_first a b left xs ys ≡ xs
  first_short [] ys left few = refl
  first_short (x ∷ xs) ys zero few = absurd (omega arith)
  first_short (x ∷ xs) ys (suc left) few = ap (λ l. x ∷ l) (first_short xs ys left (omega arith))

-- weave takes turns
pub weave_takes_turns : WeaveTakesTurns
weave_takes_turns a b some_first some_second =
    record {
      round = λ us vs xs ys full full_second.
          first_round a b us xs (vs ++ ys) (a - 1) (omega arith)
          ∙ ap (λ l. us ++ l) (second_round (woven_first a b (a - 1) xs) vs ys (b - 1) (omega arith));
      first_ends = λ xs ys few. first_short a b xs ys (a - 1) (omega arith);
      second_ends = λ us xs ys full few.
          first_round a b us xs ys (a - 1) (omega arith)
          ∙ ap (λ l. us ++ l) (second_short (woven_first a b (a - 1) xs) ys (b - 1) (omega arith));
    }
