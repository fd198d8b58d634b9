use Rattle.std.proofs.Common.{◌≡◌, replicate, false}
use Rattle.kpn_state.proofs.marks.unmarked.Given as goal

abbrev pub invariant-loop-channel : goal.invariant-loop-channel
invariant-loop-channel l = l.marks.items ≡ replicate l._channel false
