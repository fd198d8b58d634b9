use Rattle.std.proofs.Common.{◌≡◌, ◌+◌, ◌≤◌, ◌++◌, length, vec_len}
use Rattle.std.specs.Prelude.{vec_capacity}
use Rattle.std.specs.VecDeque.{deque_len, deque_capacity}
use Rattle.kpn_run.proofs.boxed.box_all.Given as goal

abbrev pub invariant-loop-body : goal.invariant-loop-body
invariant-loop-body g l = record {
  order : l.bodies.items ++ l.boxed.items ≡ l.fn.bodies.items;
  count : length l.bodies.items + deque_len l.boxed ≡ length l.fn.bodies.items;
  room : vec_capacity l.bodies ≡ vec_capacity l.fn.bodies;
  places : length l.fn.bodies.items ≤ deque_capacity l.boxed;
}

abbrev pub decreases-loop-body : goal.decreases-loop-body
decreases-loop-body g l = vec_len l.bodies
