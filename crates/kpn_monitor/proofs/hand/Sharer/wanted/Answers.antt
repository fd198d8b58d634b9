-- Found without an answer too; with it a wrong body is refused at once.
use Rattle.std.proofs.Common.{rules}
use Rattle.kpn_monitor.proofs.hand.Sharer.wanted.Goals as goal

pub returns-clause-most : goal.returns-clause-most
returns-clause-most g c = search rules
