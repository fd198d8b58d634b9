use Rattle.std.proofs.Common.{◌≡◌, ◌++◌, take, drop}
use Rattle.kpn_state.specs.Rosters.{without}
use Rattle.kpn_state.proofs.roster.sift.Given as goal

abbrev pub invariant-loop-seen : goal.invariant-loop-seen
invariant-loop-seen l = record {
  items : l.queue.items ≡ drop l._seen l.fn.queue.items ++ without l.process (take l._seen l.fn.queue.items);
  room : l.queue.capacity ≡ l.fn.queue.capacity;
}
