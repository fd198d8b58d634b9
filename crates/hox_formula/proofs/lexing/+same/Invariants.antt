use Rattle.std.proofs.Common.{length}
use Rattle.hox_formula.proofs.lexing.+same.Given as goal

abbrev pub decreases-same : goal.decreases-same
decreases-same l = length l.first.now
