-- Found without an answer too; with it a wrong body is refused at once.
use Rattle.std.proofs.Common.{rules}
use Rattle.kpn_standard.proofs.kind.Kind.cells.Goals as goal

pub returns-in-Merge : goal.returns-in-Merge
returns-in-Merge c = search rules
