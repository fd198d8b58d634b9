-- What is true or false is 1 or 0.
use Rattle.std.proofs.Common.{◌≡◌, ℕ, ◌==◌, Bool, true, false, ◌&&◌, if◌then◌else◌, List, refl}
use Rattle.std.specs.Int.RustNames.{bit_and, bit_or}
use Rattle.std.specs.Prelude.{int_lt}
use Rattle.kpn_signals.specs.Words.{signed}
use Rattle.kpn_formula.specs.declared.instruction.Operation.{Operation}
use Rattle.kpn_formula.specs.declared.instruction.Operation.TheVariants.{Add, Subtract, Multiply, Divide, Remain, ShiftLeft, ShiftRight, And, Or, ExclusiveOr, Min, Max, IsLess}
use Rattle.kpn_formula.specs.Operations.{applied}
use Rattle.kpn_formula.specs.Programs.{chosen, negated}
use Rattle.hox_formula.specs.Expressions.{Expression, Constant, Place, Negation, Size, Both, Either, Applied, Choice, truth, value, compares, is_flag}

abbrev bit : Bool → ℕ
bit b = if b then 1 else 0

pub truth_of_bit : (b : Bool) → truth (bit b) ≡ bit b
truth_of_bit true = refl
truth_of_bit false = refl

pub truth_of_truth : (b : Bool) → truth (negated (bit b)) ≡ negated (bit b)
truth_of_truth true = refl
truth_of_truth false = refl

both_truth : (b c : Bool) → truth (if b then 0 else negated (bit c)) ≡ (if b then 0 else negated (bit c))
both_truth true c = refl
both_truth false c = truth_of_truth c

either_truth : (b c : Bool) → truth (if b then negated (bit c) else 1) ≡ (if b then negated (bit c) else 1)
either_truth true c = truth_of_truth c
either_truth false c = refl

chosen_truth : (b : Bool) (x y : ℕ) → truth x ≡ x → truth y ≡ y → truth (if b then y else x) ≡ (if b then y else x)
chosen_truth true x y hx hy = hy
chosen_truth false x y hx hy = hx

less_truth : (op : Operation) (x y : ℕ) → compares op ≡ true → truth (applied op x y) ≡ applied op x y
less_truth IsLess x y h = truth_of_bit (int_lt (signed x) (signed y))
less_truth Add x y h = cc
less_truth Subtract x y h = cc
less_truth Multiply x y h = cc
less_truth Divide x y h = cc
less_truth Remain x y h = cc
less_truth ShiftLeft x y h = cc
less_truth ShiftRight x y h = cc
less_truth And x y h = cc
less_truth Or x y h = cc
less_truth ExclusiveOr x y h = cc
less_truth Min x y h = cc
less_truth Max x y h = cc

first_of_two : (b c : Bool) → (b && c) ≡ true → b ≡ true
first_of_two true c h = refl
first_of_two false c h = h

second_of_two : (b c : Bool) → (b && c) ≡ true → c ≡ true
second_of_two true c h = h
second_of_two false c h = cc

-- a flag is 1 or 0
pub flag_truth : (e : Expression) (vs : List ℕ) → is_flag e ≡ true → truth (value e vs) ≡ value e vs
flag_truth (Constant n) vs h = cc
flag_truth (Place k) vs h = cc
flag_truth (Size e) vs h = cc
flag_truth (Negation e) vs h = truth_of_bit (value e vs == 0)
flag_truth (Both d e) vs h = both_truth (value d vs == 0) (value e vs == 0)
flag_truth (Either d e) vs h = either_truth (value d vs == 0) (value e vs == 0)
flag_truth (Applied op d e) vs h = less_truth op (value d vs) (value e vs) h
flag_truth (Choice c d e) vs h =
    chosen_truth (value c vs == 0) (value d vs) (value e vs)
    (flag_truth d vs (first_of_two (is_flag d) (is_flag e) h)) (flag_truth e vs (second_of_two (is_flag d) (is_flag e) h))

both_bits : (b c : Bool) → bit_and (negated (bit b)) (negated (bit c)) ≡ (if b then 0 else negated (bit c))
both_bits true true = refl
both_bits true false = refl
both_bits false true = refl
both_bits false false = refl

pub both_is : (x y : ℕ) → bit_and (truth x) (truth y) ≡ chosen x (truth y) 0
both_is x y = both_bits (x == 0) (y == 0)

either_bits : (b c : Bool) → bit_or (negated (bit b)) (negated (bit c)) ≡ (if b then negated (bit c) else 1)
either_bits true true = refl
either_bits true false = refl
either_bits false true = refl
either_bits false false = refl

pub either_is : (x y : ℕ) → bit_or (truth x) (truth y) ≡ chosen x 1 (truth y)
either_is x y = either_bits (x == 0) (y == 0)
