-- Found without an answer too; with it a wrong body is refused at once.
use Rattle.std.proofs.Common.{rules}
use Rattle.kpn_net.proofs.ports.has_unused_port.Goals as goal

pub returns-else-is_unused-2 : goal.returns-else-is_unused-2
returns-else-is_unused-2 g c = search rules
