use Rattle.std.proofs.Common.{◌≡◌, drop}
use Rattle.hox_formula.specs.Formulas.{first_start}
use Rattle.hox_formula.proofs.compiling.first_start.Given as goal

abbrev pub invariant-loop-head : goal.invariant-loop-head
invariant-loop-head l = first_start (drop l.head-index l.heads) l.state ≡ first_start l.heads l.state
