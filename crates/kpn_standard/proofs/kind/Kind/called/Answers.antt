-- Found without an answer too; with it a wrong body is refused at once.
use Rattle.std.proofs.Common.{rules}
use Rattle.kpn_standard.proofs.kind.Kind.called.Goals as goal

pub returns-in-merge : goal.returns-in-merge
returns-in-merge c = search rules
