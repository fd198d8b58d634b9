-- Found without an answer too, after a longer search.
use Rattle.std.proofs.Common.{arith, append_assoc}
use Rattle.kpn_report.proofs.lines.push_stream.Goals as goal

pub returns : goal.returns
returns g c = grind (arith, append_assoc)
