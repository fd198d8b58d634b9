use Rattle.std.proofs.Common.{arith, ap, sym, ◌∙◌, length}
use Rattle.kpn_run.specs.Runs.{AtSlot}
use Rattle.kpn_run.proofs.Slots.{sums_same, slice_back}
use Rattle.kpn_run.proofs.slot.work_all.Goals as goal

pub returns-clause-parts : goal.returns-clause-parts
returns-clause-parts g c =
    let len = c.work_each.auto.slots ∙ (ap length c.as_mut_slice.ensures.value ∙ sym c.args.slots.now.ok.0) in
    let back = slice_back c.work_each.new.slots c.args.slots.now.items c.args.slots.now.len len in
    rw (back, ← c.as_mut_slice.ensures.value) (sums_same (λ (b : AtSlot). b.seat.parts) c.as_mut_slice.result.now c.work_each.new.slots c.work_each.auto.slots c.work_each.ensures.parts)

pub returns-clause-met : goal.returns-clause-met
returns-clause-met g c =
    let len = c.work_each.auto.slots ∙ (ap length c.as_mut_slice.ensures.value ∙ sym c.args.slots.now.ok.0) in
    let back = slice_back c.work_each.new.slots c.args.slots.now.items c.args.slots.now.len len in
    λ never. rw back (λ k d lt. let same = c.work_each.auto.slots in c.work_each.ensures.met never k d (omega arith))
