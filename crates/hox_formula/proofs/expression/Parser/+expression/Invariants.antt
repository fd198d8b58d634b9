use Rattle.std.proofs.Common.{◌+◌, ◌-◌, ◌*◌, length}
use Rattle.hox_formula.specs.Parsing.{naming, Parsed}
use Rattle.hox_formula.proofs.expression.Parser.+expression.Given as goal

abbrev pub decreases-whole : goal.decreases-whole
decreases-whole l = l.depth * 32 + 20

abbrev pub decreases-branches : goal.decreases-branches
decreases-branches l = l.depth * 32 + 19

abbrev pub decreases-level : goal.decreases-level
decreases-level l = l.depth * 32 + (16 - l.level)

abbrev pub decreases-unary : goal.decreases-unary
decreases-unary l = l.depth * 32 + 4

abbrev pub decreases-primary : goal.decreases-primary
decreases-primary l = l.depth * 32 + 3

abbrev pub decreases-marked : goal.decreases-marked
decreases-marked l = l.depth * 32 + 2

abbrev pub decreases-absolute : goal.decreases-absolute
decreases-absolute l = l.depth * 32 + 1

abbrev pub decreases-call : goal.decreases-call
decreases-call l = l.depth * 32 + 1

abbrev pub invariant-level-loop-mark : goal.invariant-level-loop-mark
invariant-level-loop-mark l = Parsed (naming l.self.names.now) l.level l.symbols l.rest l.first

abbrev pub decreases-level-loop-mark : goal.decreases-level-loop-mark
decreases-level-loop-mark l = length l.rest
