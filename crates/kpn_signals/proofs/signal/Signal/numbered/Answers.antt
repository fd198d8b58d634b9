-- Found without an answer too; with it a wrong body is refused at once.
use Rattle.std.proofs.Common.{rules}
use Rattle.kpn_signals.proofs.signal.Signal.numbered.Goals as goal

pub returns-in-7-clause-is : goal.returns-in-7-clause-is
returns-in-7-clause-is c = search rules

pub returns-in-7-clause-number : goal.returns-in-7-clause-number
returns-in-7-clause-number c = search rules
