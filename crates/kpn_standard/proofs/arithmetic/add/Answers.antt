-- Found without an answer too; with it a wrong body is refused at once.
use Rattle.std.proofs.Common.{rules}
use Rattle.kpn_standard.proofs.arithmetic.add.Goals as goal

pub returns-in_default : goal.returns-in_default
returns-in_default c = search rules
