use Rattle.std.proofs.Common.{length}
use Rattle.hox_formula.proofs.lexing.+word_length.Given as goal

abbrev pub decreases-word_length : goal.decreases-word_length
decreases-word_length l = length l.bytes.now
