use Rattle.std.proofs.Common.{◌≡◌, ◌+◌, ◌≤◌, length, vec_len}
use Rattle.std.specs.Prelude.{vec_capacity}
use Rattle.std.specs.List.{sum_by}
use Rattle.kpn_monitor.specs.Views.{Shares}
use Rattle.kpn_observe.proofs.crew.leave_all.Given as goal

abbrev pub invariant-loop-seat : goal.invariant-loop-seat
invariant-loop-seat g l =
    (sum_by (λ (s : Shares). s.parts) l.seats.items + length l.crewed.items ≡ sum_by (λ (s : Shares). s.parts) l.initial.seats.items + length l.fn.crewed.items)
    × (length l.crewed.items + length l.seats.items ≤ vec_capacity l.seats)

abbrev pub decreases-loop-seat : goal.decreases-loop-seat
decreases-loop-seat g l = vec_len l.crewed
