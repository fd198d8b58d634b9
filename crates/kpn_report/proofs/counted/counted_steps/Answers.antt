-- One more process.
use Rattle.kpn_report.proofs.Tables.{one_more}
use Rattle.std.proofs.Common.{arith, ◌∷◌, [], length-append}
use Rattle.kpn_report.proofs.counted.counted_steps.Goals as goal

pub loop-p-preserved : goal.loop-p-preserved
loop-p-preserved g c =
    rw c.in_ok-push.ensures.items (record {
      count = omega (arith, length-append c.loop-p.steps.items (c.steps.result ∷ []), c.loop-p.invariant.count);
      each = one_more 0 _ c.loop-p.p c.loop-p.steps.items c.steps.result c.loop-p.invariant.count c.loop-p.invariant.each c.steps.ensures;
    })
