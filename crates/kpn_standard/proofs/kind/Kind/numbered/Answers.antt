-- Found without an answer too; with it a wrong body is refused at once.
use Rattle.std.proofs.Common.{rules}
use Rattle.kpn_standard.proofs.kind.Kind.numbered.Goals as goal

pub returns-in-8-clause-is : goal.returns-in-8-clause-is
returns-in-8-clause-is c = search rules

pub returns-in-8-clause-number : goal.returns-in-8-clause-number
returns-in-8-clause-number c = search rules
