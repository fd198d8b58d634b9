-- Found without an answer too; with it a wrong body is refused at once.
use Rattle.std.proofs.Common.{arith}
use Rattle.std.proofs.lemmas.Grind.{common_steps}
use Rattle.kpn_flow.proofs.flow.Flow.may_feed_all.Goals as goal

pub loop-seen-preserved : goal.loop-seen-preserved
loop-seen-preserved g c = grind (arith, common_steps)
