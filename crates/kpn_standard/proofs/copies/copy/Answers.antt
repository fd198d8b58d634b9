-- Found without an answer too; with it a wrong body is refused at once.
use Rattle.std.proofs.Common.{rules}
use Rattle.kpn_standard.proofs.copies.copy.Goals as goal

pub returns-in-1 : goal.returns-in-1
returns-in-1 c = search rules
