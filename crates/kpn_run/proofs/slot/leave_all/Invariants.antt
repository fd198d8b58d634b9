use Rattle.std.proofs.Common.{◌≡◌, ◌+◌, ◌≤◌, length, vec_len}
use Rattle.std.specs.Prelude.{vec_capacity, IfNone}
use Rattle.std.specs.List.{All, sum_by}
use Rattle.kpn_monitor.specs.Views.{Shares}
use Rattle.kpn_run.specs.Runs.{AtSlot, HasMet}
use Rattle.kpn_run.proofs.slot.leave_all.Given as goal

abbrev pub invariant-loop-slot : goal.invariant-loop-slot
invariant-loop-slot g l =
    (sum_by (λ (s : Shares). s.parts) l.seats.items + sum_by (λ (b : AtSlot). b.seat.parts) l.slots.items ≡ sum_by (λ (b : AtSlot). b.seat.parts) l.fn.slots.items)
    × (length l.seats.items + length l.slots.items ≡ length l.fn.slots.items)
    × (All HasMet l.fn.slots.items → IfNone l.refused (All (λ (s : Shares). s.overs ≡ 1) l.seats.items))
    × (length l.fn.slots.items ≤ vec_capacity l.seats)
    × (All HasMet l.fn.slots.items → All HasMet l.slots.items)

abbrev pub decreases-loop-slot : goal.decreases-loop-slot
decreases-loop-slot g l = vec_len l.slots
