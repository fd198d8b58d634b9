use Rattle.std.proofs.Common.{arith}
use Rattle.std.proofs.lemmas.Grind.{common_steps}
use Rattle.hox_network.proofs.FanOut.{each_step}
use Rattle.hox_network.proofs.copies.copies.Goals as goal

pub loop-c-preserved : goal.loop-c-preserved
loop-c-preserved g c = grind (arith, common_steps, each_step)
