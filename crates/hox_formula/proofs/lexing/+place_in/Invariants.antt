use Rattle.std.proofs.Common.{length}
use Rattle.hox_formula.proofs.lexing.+place_in.Given as goal

abbrev pub decreases-place_in : goal.decreases-place_in
decreases-place_in l = length l.names.now
