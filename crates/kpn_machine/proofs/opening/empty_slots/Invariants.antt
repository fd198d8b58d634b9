use Rattle.std.proofs.Common.{◌≡◌, length}
use Rattle.kpn_machine.proofs.opening.empty_slots.Given as goal

abbrev pub invariant-loop-p : goal.invariant-loop-p
invariant-loop-p g l = length l.slots.items ≡ l._p
