use Rattle.std.proofs.Common.{refl, arith}
use Rattle.kpn_formula.proofs.Tapes.{zeros_are_digits}
use Rattle.kpn_formula.proofs.encoding.Tape.new.Goals as goal

pub invariant_of-result : goal.invariant_of-result
invariant_of-result c = (omega arith, refl, zeros_are_digits)
