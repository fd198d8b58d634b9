use Rattle.std.proofs.Common.{length}
use Rattle.kpn_formula.proofs.encoding.+packed.Given as goal

abbrev pub decreases-packed : goal.decreases-packed
decreases-packed l = length l.digits.now
