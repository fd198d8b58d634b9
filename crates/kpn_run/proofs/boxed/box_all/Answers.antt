-- Found without an answer too; with it a wrong body is refused at once.
use Rattle.std.proofs.Common.{arith}
use Rattle.std.proofs.lemmas.Grind.{common_steps}
use Rattle.kpn_run.proofs.boxed.box_all.Goals as goal

pub loop-body-preserved : goal.loop-body-preserved
loop-body-preserved g c = grind (arith, common_steps)
