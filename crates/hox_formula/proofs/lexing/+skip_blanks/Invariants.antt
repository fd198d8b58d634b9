use Rattle.std.proofs.Common.{length}
use Rattle.hox_formula.proofs.lexing.+skip_blanks.Given as goal

abbrev pub decreases-skip_blanks : goal.decreases-skip_blanks
decreases-skip_blanks l = length l.bytes.now
