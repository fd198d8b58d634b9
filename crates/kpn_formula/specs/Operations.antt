-- What operations make of two words, in two's complement.
use Rattle.std.specs.Prelude.{ℕ, ◌+◌, ◌%◌, ◌^◌, nat_lt, min, int_lt, if◌then◌else◌}
use Rattle.std.specs.Int.RustNames.{bit_and, bit_or, bit_xor}
use Rattle.kpn_signals.specs.Words.{signed}
use Rattle.kpn_signals.specs.Arithmetic.{difference, product, quotient, remainder, left_shift, right_shift, least, greatest}
use Rattle.kpn_formula.specs.declared.instruction.Operation.{Operation}
use Rattle.kpn_formula.specs.declared.instruction.Operation.TheVariants.{Add, Subtract, Multiply, Divide, Remain, ShiftLeft, ShiftRight, And, Or, ExclusiveOr, Min, Max, IsLess}

abbrev pub applied : Operation → ℕ → ℕ → ℕ
applied Add x y = (x + y) % 2 ^ 64
applied Subtract x y = difference x y
applied Multiply x y = product x y
applied Divide x y = quotient x y
applied Remain x y = remainder x y
applied ShiftLeft x y = if nat_lt y 64 then left_shift y x else 0
applied ShiftRight x y = right_shift (min y 63) x
applied And x y = bit_and x y
applied Or x y = bit_or x y
applied ExclusiveOr x y = bit_xor x y
applied Min x y = least x y
applied Max x y = greatest x y
applied IsLess x y = if int_lt (signed x) (signed y) then 1 else 0
