use Rattle.std.proofs.Common.{arith}
use Rattle.std.proofs.lemmas.Grind.{common_steps}
use Rattle.hox_network.proofs.Delaying.{kept}
use Rattle.hox_network.proofs.delays.delayed_from.Goals as goal

pub loop-channel-preserved : goal.loop-channel-preserved
loop-channel-preserved g c = grind (arith, common_steps, kept)
