-- Found without an answer too, after a longer search.
use Rattle.std.proofs.Common.{arith}
use Rattle.std.proofs.lemmas.Grind.{common_steps}
use Rattle.hox_network.proofs.signs.signed_processes.Goals as goal

pub loop-process-preserved : goal.loop-process-preserved
loop-process-preserved g c = grind (arith, common_steps)
