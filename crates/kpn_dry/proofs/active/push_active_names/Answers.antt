-- One more name.
use Rattle.std.proofs.Common.{arith}
use Rattle.std.proofs.lemmas.Grind.{common_steps}
use Rattle.kpn_dry.proofs.active.push_active_names.Goals as goal

pub loop-p-preserved : goal.loop-p-preserved
loop-p-preserved g c = grind (arith, common_steps)
