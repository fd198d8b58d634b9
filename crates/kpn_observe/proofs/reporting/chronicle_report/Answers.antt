-- Found without an answer too; with it a wrong body is refused at once.
use Rattle.std.proofs.Common.{rules}
use Rattle.kpn_observe.proofs.reporting.chronicle_report.Goals as goal

pub returns-clause-some : goal.returns-clause-some
returns-clause-some g c = search rules
