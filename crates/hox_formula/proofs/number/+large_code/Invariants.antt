use Rattle.hox_formula.proofs.number.+large_code.Given as goal

abbrev pub decreases-large_code : goal.decreases-large_code
decreases-large_code l = l.number
