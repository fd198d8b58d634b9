use Rattle.std.proofs.Common.{◌∙◌, rules, arith}
use Rattle.kpn_verdict.proofs.CycleSteps.{met_next}
use Rattle.kpn_verdict.proofs.waits.is_met.Goals as goal

pub loop-step-preserved : goal.loop-step-preserved
loop-step-preserved g c =
    met_next c.args.net.now c.args.places.now _ _ c.args.goal c.loop-step.at c.in-Some.next (omega arith) (search rules) c.if-next-goal.false ∙ c.loop-step.invariant
