-- Found without an answer too; with it a wrong body is refused at once.
use Rattle.std.proofs.Common.{rules}
use Rattle.kpn_net.proofs.ports.takes_other_count.Goals as goal

pub returns-in-Some : goal.returns-in-Some
returns-in-Some g c = search rules
