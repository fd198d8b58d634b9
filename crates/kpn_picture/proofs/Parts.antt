-- Texts that are appended part by part.
use Rattle.std.proofs.Common.{◌≡◌, ℕ, ◌+◌, List, ◌++◌, ap, ◌∙◌, append_assoc, add-one}
use Rattle.kpn_model.specs.texts.Reports.{lines_upto}

pub pushed_two : (old mid new a b : List ℕ) → mid ≡ old ++ a → new ≡ mid ++ b → new ≡ old ++ (a ++ b)
pushed_two old mid new a b first second = second ∙ ap (λ xs. xs ++ b) first ∙ append_assoc old a b

-- one more line
pub pushed_line : (line : ℕ → List ℕ) (n : ℕ) (old mid new : List ℕ) → mid ≡ old ++ lines_upto line n → new ≡ mid ++ line n → new ≡ old ++ lines_upto line (n + 1)
pushed_line line n old mid new before more = rw (add-one n) (pushed_two old mid new (lines_upto line n) (line n) before more)

pub pushed_three : (old m n new a b c : List ℕ) → m ≡ old ++ a → n ≡ m ++ b → new ≡ n ++ c → new ≡ old ++ (a ++ b ++ c)
pushed_three old m n new a b c first second third = pushed_two old n new (a ++ b) c (pushed_two old m n a b first second) third

pub pushed_four : (old m n o new a b c d : List ℕ) → m ≡ old ++ a → n ≡ m ++ b → o ≡ n ++ c → new ≡ o ++ d → new ≡ old ++ (a ++ b ++ c ++ d)
pushed_four old m n o new a b c d first second third fourth = pushed_two old o new (a ++ b ++ c) d (pushed_three old m n o a b c first second third) fourth

pub pushed_five : (old m n o p new a b c d e : List ℕ) → m ≡ old ++ a → n ≡ m ++ b → o ≡ n ++ c → p ≡ o ++ d → new ≡ p ++ e → new ≡ old ++ (a ++ b ++ c ++ d ++ e)
pushed_five old m n o p new a b c d e first second third fourth fifth =
    pushed_two old p new (a ++ b ++ c ++ d) e (pushed_four old m n o p a b c d first second third fourth) fifth
