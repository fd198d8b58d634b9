-- Found without an answer too; with it a wrong body is refused at once.
use Rattle.std.proofs.Common.{rules}
use Rattle.kpn_network.proofs.net.Net.channels.Goals as goal

pub returns : goal.returns
returns g c = search rules
