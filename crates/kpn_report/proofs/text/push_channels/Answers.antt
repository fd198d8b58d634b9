-- Found without an answer too, after a longer search.
use Rattle.std.proofs.Common.{arith, append_assoc}
use Rattle.kpn_report.proofs.text.push_channels.Goals as goal

pub loop-c-preserved : goal.loop-c-preserved
loop-c-preserved g c = grind (arith, append_assoc)
