use Rattle.std.proofs.Common.{◌≡◌, ◌+◌, ◌≤◌, ◌<◌, length}
use Rattle.std.specs.Prelude.{vec_capacity}
use Rattle.std.specs.List.{sum_by}
use Rattle.kpn_run.specs.Runs.{AtSlot}
use Rattle.kpn_run.proofs.slot.seat_all.Given as goal

abbrev pub invariant-loop-i : goal.invariant-loop-i
invariant-loop-i g l =
    (sum_by (λ (b : AtSlot). b.seat.parts) l.slots.items + l.seat.parts ≡ l.fn.seat.parts)
    × (length l.slots.items < l._i)
    × (l.workers ≤ vec_capacity l.slots)
