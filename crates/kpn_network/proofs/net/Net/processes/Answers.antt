-- Found without an answer too; with it a wrong body is refused at once.
use Rattle.std.proofs.Common.{rules}
use Rattle.kpn_network.proofs.net.Net.processes.Goals as goal

pub returns-clause-count : goal.returns-clause-count
returns-clause-count g c = search rules
