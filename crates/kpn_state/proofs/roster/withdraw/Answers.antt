-- The process is the last of the queue.
use Rattle.std.proofs.Common.{◌≡◌, ◌∙◌, ◌-◌, ◌≤◌, refl, sym, ap, arith, length, Some, slice_get}
use Rattle.kpn_state.proofs.Withdrawn.{last_left, some_there}
use Rattle.kpn_state.proofs.roster.withdraw.Goals as goal

pub returns-then-last-process : goal.returns-then-last-process
returns-then-last-process c =
    let queue = c.args.queue.now.items in
    let n = length queue - 1 in
    let at : slice_get queue n ≡ Some c.args.process = sym c.in-Some.ensures ∙ ap (λ x. Some x) c.if-last-process.true in
    let some : 1 ≤ length queue = some_there queue n _ at in
    record {
      items = rw c.pop_back.ensures.items (last_left queue c.args.process n (omega arith) at c.requires);
      room = rw c.pop_back.ensures.items refl;
    }
