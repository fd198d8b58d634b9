-- The parts are appended one after another.
use Rattle.std.proofs.Common.{append_assoc, rules}
use Rattle.kpn_report.proofs.lines.push_token.Goals as goal

pub returns-in-Word : goal.returns-in-Word
returns-in-Word c = search (rules, append_assoc)

pub returns-in-Flag : goal.returns-in-Flag
returns-in-Flag c = search (rules, append_assoc)
