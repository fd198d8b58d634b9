-- Found without an answer too; with it a wrong body is refused at once.
use Rattle.std.proofs.Common.{rules}
use Rattle.kpn_flow.proofs.opening.lists_of.Goals as goal

pub returns-clause-unended : goal.returns-clause-unended
returns-clause-unended c = search rules

pub returns-clause-inputs : goal.returns-clause-inputs
returns-clause-inputs c = search rules
