-- The parts are appended one after another.
use Rattle.std.proofs.Common.{append_assoc, arith}
use Rattle.kpn_report.proofs.lines.push_process.Goals as goal

pub returns-in-Stopped : goal.returns-in-Stopped
returns-in-Stopped g c = grind (arith, append_assoc)

pub returns-in-Reads : goal.returns-in-Reads
returns-in-Reads g c = grind (arith, append_assoc)

pub returns-in-Writes : goal.returns-in-Writes
returns-in-Writes g c = grind (arith, append_assoc)
