-- Found without an answer too; with it a wrong body is refused at once.
use Rattle.std.proofs.Common.{rules}
use Rattle.kpn_run.proofs.fault.RunFault.number.Goals as goal

pub returns-in-Lost-clause-lost : goal.returns-in-Lost-clause-lost
returns-in-Lost-clause-lost g c = search rules
