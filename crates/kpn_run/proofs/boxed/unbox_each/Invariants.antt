use Rattle.std.proofs.Common.{◌≡◌, ◌+◌, ◌++◌, length}
use Rattle.std.specs.Prelude.{vec_capacity}
use Rattle.std.specs.VecDeque.{deque_len}
use Rattle.kpn_run.proofs.boxed.unbox_each.Given as goal

abbrev pub invariant-loop-one : goal.invariant-loop-one
invariant-loop-one g l = record {
  order : l.bodies.items ++ l.boxed.items ≡ l.initial.bodies.items ++ l.initial.boxed.items;
  count : length l.bodies.items + deque_len l.boxed ≡ length l.initial.bodies.items + deque_len l.initial.boxed;
  room : vec_capacity l.bodies ≡ vec_capacity l.initial.bodies;
}

abbrev pub decreases-loop-one : goal.decreases-loop-one
decreases-loop-one g l = deque_len l.boxed
