use Rattle.std.proofs.Common.{◌≤◌, ◌-◌, length}
use Rattle.hox_messages.proofs.hints.common_front.Given as goal

abbrev pub invariant-loop-front : goal.invariant-loop-front
invariant-loop-front l = (l.front ≤ length l.a) × (l.front ≤ length l.b)

abbrev pub decreases-loop-front : goal.decreases-loop-front
decreases-loop-front l = length l.a - l.front
