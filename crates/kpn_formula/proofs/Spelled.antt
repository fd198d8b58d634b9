-- What is read of spelled programs.
use Rattle.std.proofs.Common.{◌≡◌, ◌∙◌, inl, inr, ℕ, zero, suc, ◌+◌, ◌-◌, ◌*◌, ◌/◌, ◌%◌, ◌^◌, ◌<◌, nat_lt, if◌then◌else◌, Bool, true, false, List, [], ◌∷◌, ◌++◌, length, replicate, refl, ap, arith, All, sum_by}
use Rattle.std.proofs.lemmas.List.{append_assoc, append-nil, length-append}
use Rattle.std.proofs.lemmas.List.Elements.{All-head, All-tail, All-append, All-cons, All-nil}
use Rattle.std.proofs.lemmas.List.Sums.{sum_by-cons}
use Rattle.std.proofs.lemmas.Bool.Decides.{nat_tests}
use Rattle.kpn_formula.specs.declared.instruction.Operation.{Operation}
use Rattle.kpn_formula.specs.declared.instruction.Operation.TheVariants.{Add, Subtract, Multiply, Divide, Remain, ShiftLeft, ShiftRight, And, Or, ExclusiveOr, Min, Max, IsLess}
use Rattle.kpn_formula.specs.declared.instruction.Instruction.{Instruction}
use Rattle.kpn_formula.specs.declared.instruction.Instruction.TheVariants.{End, Push, Times, Shift, Not, Abs, Choose, Apply, Load, Store}
use Rattle.kpn_formula.specs.Cards.{extended, instructions, is_end, before_end, after_end}
use Rattle.kpn_formula.specs.Encoding.{IsShort, IsEncodable, AreEncodable, width}
use Rattle.kpn_formula.specs.Spelling.{IsDigit, code_of, short_digits, spelled, spelling}

-- a short word is read as it was written
extended_is : (v : ℕ) → IsShort v → extended (v % 32 + 32 * (v / 32 % 32) + 1024 * (v / 1024 % 32)) ≡ v
extended_is v (inl small) = let is : v % 32 + 32 * (v / 32 % 32) + 1024 * (v / 1024 % 32) ≡ v = omega arith in rw is (grind (arith, nat_tests))
extended_is v (inr large) = let is : v % 32 + 32 * (v / 32 % 32) + 1024 * (v / 1024 % 32) ≡ v - (2 ^ 64 - 2 ^ 15) = omega arith in rw is (grind (arith, nat_tests))

-- what is read of digits that begin with those of an instruction
abbrev Reads : List ℕ → Instruction → List ℕ → Type 0
Reads ds i rest = instructions 0 (ds ++ rest) ≡ i ∷ instructions 0 rest

reads_push : (b : Bool) (v : ℕ) (rest : List ℕ) → IsShort v → Reads (if b then 1 ∷ v ∷ [] else 2 ∷ short_digits v) (Push v) rest
reads_push true v rest short = refl
reads_push false v rest short = ap (λ w. Push w ∷ instructions 0 rest) (extended_is v short)

reads_apply : (op : Operation) (rest : List ℕ) → Reads (code_of op ∷ []) (Apply op) rest
reads_apply Add rest = refl
reads_apply Subtract rest = refl
reads_apply Multiply rest = refl
reads_apply Divide rest = refl
reads_apply Remain rest = refl
reads_apply ShiftLeft rest = refl
reads_apply ShiftRight rest = refl
reads_apply And rest = refl
reads_apply Or rest = refl
reads_apply ExclusiveOr rest = refl
reads_apply Min rest = refl
reads_apply Max rest = refl
reads_apply IsLess rest = refl

reads_load : (k : ℕ) (rest : List ℕ) → k < 6 → Reads ((21 + k) ∷ []) (Load k) rest
reads_load zero rest small = refl
reads_load (suc zero) rest small = refl
reads_load (suc (suc zero)) rest small = refl
reads_load (suc (suc (suc zero))) rest small = refl
reads_load (suc (suc (suc (suc zero)))) rest small = refl
reads_load (suc (suc (suc (suc (suc zero))))) rest small = refl
reads_load (suc (suc (suc (suc (suc (suc k)))))) rest small = absurd (omega arith)

reads_store : (k : ℕ) (rest : List ℕ) → k < 5 → Reads ((27 + k) ∷ []) (Store k) rest
reads_store zero rest small = refl
reads_store (suc zero) rest small = refl
reads_store (suc (suc zero)) rest small = refl
reads_store (suc (suc (suc zero))) rest small = refl
reads_store (suc (suc (suc (suc zero)))) rest small = refl
reads_store (suc (suc (suc (suc (suc k))))) rest small = absurd (omega arith)

-- an instruction is read as it was written
reads : (i : Instruction) (rest : List ℕ) → IsEncodable i → Reads (spelled i) i rest
reads End rest fits = absurd fits
reads (Push v) rest fits = reads_push (nat_lt v 32) v rest fits
reads (Times v) rest fits = ap (λ w. Times w ∷ instructions 0 rest) (extended_is v fits)
reads (Shift n) rest fits = refl
reads Not rest fits = refl
reads Abs rest fits = refl
reads Choose rest fits = refl
reads (Apply op) rest fits = reads_apply op rest
reads (Load k) rest fits = reads_load k rest fits
reads (Store k) rest fits = reads_store k rest fits

-- so is a program
pub reads_program : (is : List Instruction) (rest : List ℕ) → AreEncodable is → instructions 0 (spelling is ++ rest) ≡ is ++ instructions 0 rest
reads_program [] rest fits = refl
reads_program (i ∷ is) rest fits =
    ap (λ ds. instructions 0 ds) (append_assoc (spelled i) (spelling is) rest)
    ∙ reads i (spelling is ++ rest) (All-head IsEncodable i is fits)
    ∙ ap (λ js. i ∷ js) (reads_program is rest (All-tail IsEncodable i is fits))

no_end : (i : Instruction) → IsEncodable i → is_end i ≡ false
no_end End fits = absurd fits
no_end (Push v) fits = refl
no_end (Times v) fits = refl
no_end (Shift n) fits = refl
no_end Not fits = refl
no_end Abs fits = refl
no_end Choose fits = refl
no_end (Apply op) fits = refl
no_end (Load k) fits = refl
no_end (Store k) fits = refl

-- a program has no End, so it goes up to the first one behind it
before_program : (is rest : List Instruction) → AreEncodable is → before_end (is ++ rest) ≡ is ++ before_end rest
before_program [] rest fits = refl
before_program (i ∷ is) rest fits = rw (no_end i (All-head IsEncodable i is fits)) (ap (λ js. i ∷ js) (before_program is rest (All-tail IsEncodable i is fits)))

after_program : (is rest : List Instruction) → AreEncodable is → after_end (is ++ rest) ≡ after_end rest
after_program [] rest fits = refl
after_program (i ∷ is) rest fits = rw (no_end i (All-head IsEncodable i is fits)) (after_program is rest (All-tail IsEncodable i is fits))

-- zeros are no program
before_zeros : (n : ℕ) → before_end (instructions 0 (replicate n 0)) ≡ []
before_zeros zero = refl
before_zeros (suc n) = refl

before_after_zeros : (n : ℕ) → before_end (after_end (instructions 0 (replicate n 0))) ≡ []
before_after_zeros zero = refl
before_after_zeros (suc n) = before_zeros n

module _ (round : List Instruction) (n : ℕ) (fits : AreEncodable round) where
  -- a round alone, with zeros behind it
  pub lone_round : before_end (instructions 0 (spelling round ++ replicate n 0)) ≡ round
  lone_round =
      ap (λ is. before_end is) (reads_program round (replicate n 0) fits)
      ∙ before_program round (instructions 0 (replicate n 0)) fits
      ∙ ap (λ is. round ++ is) (before_zeros n)
      ∙ append-nil round

  pub no_opening : before_end (after_end (instructions 0 (spelling round ++ replicate n 0))) ≡ []
  no_opening =
      ap (λ is. before_end (after_end is)) (reads_program round (replicate n 0) fits)
      ∙ ap (λ is. before_end is) (after_program round (instructions 0 (replicate n 0)) fits)
      ∙ before_after_zeros n

module _ (round opening : List Instruction) (n : ℕ) (fits : AreEncodable round) (opens : AreEncodable opening) where
  -- a round and an opening, with an End between them and zeros behind
  pub round_of_both : before_end (instructions 0 (spelling round ++ (0 ∷ (spelling opening ++ replicate n 0)))) ≡ round
  round_of_both =
      ap (λ is. before_end is) (reads_program round (0 ∷ (spelling opening ++ replicate n 0)) fits)
      ∙ before_program round (instructions 0 (0 ∷ (spelling opening ++ replicate n 0))) fits
      ∙ append-nil round

  pub opening_of_both : before_end (after_end (instructions 0 (spelling round ++ (0 ∷ (spelling opening ++ replicate n 0))))) ≡ opening
  opening_of_both =
      ap (λ is. before_end (after_end is)) (reads_program round (0 ∷ (spelling opening ++ replicate n 0)) fits)
      ∙ ap (λ is. before_end is) (after_program round (instructions 0 (0 ∷ (spelling opening ++ replicate n 0))) fits)
      ∙ lone_round opening n opens

-- how long the spelling is
spelled_length : (i : Instruction) → length (spelled i) ≡ width i
spelled_length End = refl
spelled_length (Push v) = pushed (nat_lt v 32)
  where
    pushed : (b : Bool) → length (if b then 1 ∷ v ∷ [] else 2 ∷ short_digits v) ≡ (if b then 2 else 4)
    pushed true = refl
    pushed false = refl
spelled_length (Times v) = refl
spelled_length (Shift n) = refl
spelled_length Not = refl
spelled_length Abs = refl
spelled_length Choose = refl
spelled_length (Apply op) = refl
spelled_length (Load k) = refl
spelled_length (Store k) = refl

pub spelling_length : (is : List Instruction) → length (spelling is) ≡ sum_by width is
spelling_length [] = refl
spelling_length (i ∷ is) = omega (arith, length-append (spelled i) (spelling is), spelled_length i, spelling_length is, sum_by-cons width i is)

-- all digits are below 32
one_digit : (d : ℕ) → d < 32 → All IsDigit (d ∷ [])
one_digit d small = All-cons IsDigit d [] small (All-nil IsDigit)

short_are_digits : (v : ℕ) → All IsDigit (short_digits v)
short_are_digits v = All-cons IsDigit (v % 32) (v / 32 % 32 ∷ v / 1024 % 32 ∷ []) (omega arith) (All-cons IsDigit (v / 32 % 32) (v / 1024 % 32 ∷ []) (omega arith) (one_digit (v / 1024 % 32) (omega arith)))

push_are_digits : (b : Bool) (v : ℕ) → nat_lt v 32 ≡ b → All IsDigit (if b then 1 ∷ v ∷ [] else 2 ∷ short_digits v)
push_are_digits true v is = let small : v < 32 = grind (arith, nat_tests) in All-cons IsDigit 1 (v ∷ []) (omega arith) (one_digit v small)
push_are_digits false v is = All-cons IsDigit 2 (short_digits v) (omega arith) (short_are_digits v)

code_bound : (op : Operation) → code_of op < 32
code_bound Add = omega arith
code_bound Subtract = omega arith
code_bound Multiply = omega arith
code_bound Divide = omega arith
code_bound Remain = omega arith
code_bound ShiftLeft = omega arith
code_bound ShiftRight = omega arith
code_bound And = omega arith
code_bound Or = omega arith
code_bound ExclusiveOr = omega arith
code_bound Min = omega arith
code_bound Max = omega arith
code_bound IsLess = omega arith

spelled_are_digits : (i : Instruction) → IsEncodable i → All IsDigit (spelled i)
spelled_are_digits End fits = absurd fits
spelled_are_digits (Push v) fits = push_are_digits (nat_lt v 32) v refl
spelled_are_digits (Times v) fits = All-cons IsDigit 3 (short_digits v) (omega arith) (short_are_digits v)
spelled_are_digits (Shift n) fits = All-cons IsDigit 4 (n ∷ []) (omega arith) (one_digit n fits)
spelled_are_digits Not fits = one_digit 5 (omega arith)
spelled_are_digits Abs fits = one_digit 6 (omega arith)
spelled_are_digits Choose fits = one_digit 7 (omega arith)
spelled_are_digits (Apply op) fits = one_digit (code_of op) (code_bound op)
spelled_are_digits (Load k) fits = one_digit (21 + k) (omega (arith, fits))
spelled_are_digits (Store k) fits = one_digit (27 + k) (omega (arith, fits))

pub spelling_are_digits : (is : List Instruction) → AreEncodable is → All IsDigit (spelling is)
spelling_are_digits [] fits = All-nil IsDigit
spelling_are_digits (i ∷ is) fits =
    All-append IsDigit (spelled i) (spelling is) (spelled_are_digits i (All-head IsEncodable i is fits)) (spelling_are_digits is (All-tail IsEncodable i is fits))
