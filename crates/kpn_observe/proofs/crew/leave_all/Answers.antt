use Rattle.std.proofs.Common.{rules, arith, ap}
use Rattle.kpn_monitor.specs.Views.{Shares}
use Rattle.kpn_run.proofs.Slots.{sum_more, length_more}
use Rattle.kpn_observe.proofs.crew.leave_all.Goals as goal

pub loop-seat-preserved : goal.loop-seat-preserved
loop-seat-preserved g c =
    let i = c.loop-seat.invariant in
    let pop = c.in-Some.ensures.items in
    let push = c.push_reserved.ensures.items in
    let seat = ap (λ (s : Shares). s.parts) c.leave.ensures.0 in (
      omega (arith, i.0, sum_more (λ (s : Shares). s.parts) _ _ _ push, length_more _ _ _ pop, seat, c.leave.ensures.1),
      search rules,
    )
