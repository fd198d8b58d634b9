-- Found without an answer too; with it a wrong body is refused at once.
use Rattle.std.proofs.Common.{rules}
use Rattle.kpn_monitor.proofs.closed.Closed.settle.Goals as goal

pub returns-clause-goes_on : goal.returns-clause-goes_on
returns-clause-goes_on g c = search rules

pub returns-clause-ended : goal.returns-clause-ended
returns-clause-ended g c = search rules

pub returns-clause-shown : goal.returns-clause-shown
returns-clause-shown g c = search rules
