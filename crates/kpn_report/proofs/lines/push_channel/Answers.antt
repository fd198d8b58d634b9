-- The parts are appended one after another.
use Rattle.std.proofs.Common.{append_assoc, arith}
use Rattle.kpn_report.proofs.lines.push_channel.Goals as goal

pub returns : goal.returns
returns g c = grind (arith, append_assoc)
