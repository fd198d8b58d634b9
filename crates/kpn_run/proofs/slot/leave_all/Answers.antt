-- One more seat was taken back.
use Rattle.std.proofs.Common.{rules, arith, ap, sym, ◌∙◌}
use Rattle.std.specs.Prelude.{is_some}
use Rattle.kpn_monitor.specs.Views.{Shares}
use Rattle.kpn_run.specs.Runs.{AtSlot}
use Rattle.kpn_run.proofs.Slots.{front_met, last_met, sum_more, length_more, none_more}
use Rattle.kpn_run.proofs.slot.leave_all.Goals as goal

pub loop-slot-preserved : goal.loop-slot-preserved
loop-slot-preserved g c =
    let i = c.loop-slot.invariant in
    let pop = c.in-Some.ensures.items in
    let push = c.push_reserved.ensures.items in
    let seat = ap (λ (s : Shares). s.parts) c.leave-seat.ensures.seat in (
      omega (arith, i.0, sum_more (λ (s : Shares). s.parts) _ _ _ push, sum_more (λ (b : AtSlot). b.seat.parts) _ _ _ pop, seat),
      omega (arith, i.1, length_more _ _ _ push, length_more _ _ _ pop),
      λ all. rw c.or-refused.ensures (none_more c.leave-seat.result.1 c.loop-slot.refused _ _ _ push (i.2 all) (λ none. ap (λ (s : Shares). s.overs) c.leave-seat.ensures.seat ∙ last_met _ _ _ pop (i.4 all) (sym c.leave-seat.ensures.refused ∙ ap is_some none))),
      search rules,
      λ all. front_met _ _ _ pop (i.4 all),
    )
