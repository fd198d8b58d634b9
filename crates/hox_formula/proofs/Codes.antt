-- What code does that is put together.
use Rattle.std.proofs.Common.{◌≡◌, ◌∙◌, ℕ, List, [], ◌∷◌, ◌++◌, refl, ap, sym, append_assoc, Some}
use Rattle.kpn_formula.specs.declared.instruction.Instruction.{Instruction}
use Rattle.kpn_formula.specs.declared.instruction.Instruction.TheVariants.{Apply, Choose}
use Rattle.kpn_formula.specs.declared.instruction.Operation.{Operation}
use Rattle.kpn_formula.specs.Operations.{applied}
use Rattle.kpn_formula.specs.Programs.{Working, executed, run}
use Rattle.hox_formula.specs.declared.fragment.Facts.{Facts}
use Rattle.hox_formula.specs.Expressions.{Expression, Constant, Applied, Choice, value}
use Rattle.hox_formula.specs.Fragments.{working, Computes, Knows}

-- code behind that of one expression
pub after_one :
    (xs tail : List Instruction) (d e : Expression) → Computes xs d
    → ((rest : List Instruction) (vs stack : List ℕ) → run (tail ++ rest) (working vs (value d vs ∷ stack)) ≡ run rest (working vs (value e vs ∷ stack)))
    → Computes (xs ++ tail) e
after_one xs tail d e first then = record {
  runs = λ rest vs stack.
      ap (λ (code : List Instruction). run code (working vs stack)) (append_assoc xs tail rest)
      ∙ first.runs (tail ++ rest) vs stack ∙ then rest vs stack;
}

-- code behind that of two
pub after_two :
    (xs ys tail : List Instruction) (c d e : Expression) → Computes xs c → Computes ys d
    → ((rest : List Instruction) (vs stack : List ℕ) → run (tail ++ rest) (working vs (value d vs ∷ value c vs ∷ stack)) ≡ run rest (working vs (value e vs ∷ stack)))
    → Computes ((xs ++ ys) ++ tail) e
after_two xs ys tail c d e first second then = record {
  runs = λ rest vs stack.
      ap (λ (code : List Instruction). run code (working vs stack)) (append_assoc (xs ++ ys) tail rest ∙ append_assoc xs ys (tail ++ rest))
      ∙ first.runs (ys ++ (tail ++ rest)) vs stack ∙ second.runs (tail ++ rest) vs (value c vs ∷ stack) ∙ then rest vs stack;
}

-- an operation behind two expressions
pub applied_code : (xs ys : List Instruction) (op : Operation) (d e : Expression) → Computes xs d → Computes ys e → Computes ((xs ++ ys) ++ (Apply op ∷ [])) (Applied op d e)
applied_code xs ys op d e first second = after_two xs ys (Apply op ∷ []) d e (Applied op d e) first second (λ rest vs stack. refl)

-- an instruction that stands for an operation with a number
pub short_code :
    (xs : List Instruction) (i : Instruction) (op : Operation) (n : ℕ) (d e : Expression) → Computes xs d → ((vs : List ℕ) → value e vs ≡ n)
    → ((vs stack : List ℕ) (x : ℕ) → executed i (working vs (x ∷ stack)) ≡ working vs (applied op x n ∷ stack))
    → Computes (xs ++ (i ∷ [])) (Applied op d e)
short_code xs i op n d e first is short = after_one xs (i ∷ []) d (Applied op d e) first
    (λ rest vs stack. ap (λ (w : Working). run rest w) (short vs stack (value d vs)) ∙ ap (λ (y : ℕ). run rest (working vs (applied op (value d vs) y ∷ stack))) (sym (is vs)))

-- the code of a number, for what is always worth that number
pub number_code : (xs : List Instruction) (n : ℕ) (e : Expression) → Computes xs (Constant n) → ((vs : List ℕ) → value e vs ≡ n) → Computes xs e
number_code xs n e code is = record { runs = λ rest vs stack. code.runs rest vs stack ∙ ap (λ (x : ℕ). run rest (working vs (x ∷ stack))) (sym (is vs)) }

-- a choice behind three
pub chosen_code : (xs ys zs : List Instruction) (c d e : Expression) → Computes xs c → Computes ys d → Computes zs e → Computes ((xs ++ (ys ++ zs)) ++ (Choose ∷ [])) (Choice c d e)
chosen_code xs ys zs c d e first second third = record {
  runs = λ rest vs stack.
      ap (λ (code : List Instruction). run code (working vs stack))
      (append_assoc (xs ++ (ys ++ zs)) (Choose ∷ []) rest ∙ append_assoc xs (ys ++ zs) (Choose ∷ rest) ∙ ap (λ (code : List Instruction). xs ++ code) (append_assoc ys zs (Choose ∷ rest)))
      ∙ first.runs (ys ++ (zs ++ (Choose ∷ rest))) vs stack
      ∙ second.runs (zs ++ (Choose ∷ rest)) vs (value c vs ∷ stack)
      ∙ third.runs (Choose ∷ rest) vs (value d vs ∷ value c vs ∷ stack);
}

-- an expression that is known to be a number is worth that
pub known_number : (facts : Facts) (n : ℕ) (e : Expression) → facts.number ≡ Some n → Knows facts e → (vs : List ℕ) → value e vs ≡ n
known_number facts n e is knows = rw is at knows.number
