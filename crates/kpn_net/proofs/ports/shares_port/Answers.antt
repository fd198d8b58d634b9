-- Found without an answer too; with it a wrong body is refused at once.
use Rattle.std.proofs.Common.{rules}
use Rattle.kpn_net.proofs.ports.shares_port.Goals as goal

pub returns-else-any_clash : goal.returns-else-any_clash
returns-else-any_clash g c = search rules
