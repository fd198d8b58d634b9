use Rattle.std.proofs.Common.{length}
use Rattle.hox_formula.proofs.reading.+read_lines.Given as goal

abbrev pub decreases-read_lines : goal.decreases-read_lines
decreases-read_lines l = length l.symbols.now
