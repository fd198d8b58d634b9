use Rattle.std.proofs.Common.{length}
use Rattle.hox_formula.proofs.compiling.+opening_code.Given as goal

abbrev pub decreases-opening_code : goal.decreases-opening_code
decreases-opening_code l = length l.states.now
