use Rattle.std.proofs.Common.{◌+◌, ◌*◌, ◌^◌}
use Rattle.kpn_formula.proofs.Runs.{IsRunning}
use Rattle.kpn_formula.proofs.running.run_within.Given as goal

abbrev pub invariant-loop-stack : goal.invariant-loop-stack
invariant-loop-stack g l = IsRunning g.row.N (l.fn.low + 2 ^ 64 * l.fn.middle + 2 ^ 128 * l.fn.high) l.fn.values l.words l.stack.top l.values l.stack.last l.cursor

abbrev pub decreases-loop-stack : goal.decreases-loop-stack
decreases-loop-stack g l = l.cursor
