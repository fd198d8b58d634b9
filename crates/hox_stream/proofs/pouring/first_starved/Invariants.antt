use Rattle.std.proofs.Common.{◌≡◌, ◌<◌, ◌≤◌, ℕ, false}
use Rattle.hox_stream.specs.Streams.{inlet_at, is_waited_for}
use Rattle.hox_stream.proofs.pouring.first_starved.Given as goal

abbrev pub invariant-loop-k : goal.invariant-loop-k
invariant-loop-k g l = (j : ℕ) → j < l.k → l.from ≤ j → is_waited_for l.flow (inlet_at l.inlets j) ≡ false
