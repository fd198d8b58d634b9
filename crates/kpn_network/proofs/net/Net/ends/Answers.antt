-- Found without an answer too; with it a wrong body is refused at once.
use Rattle.std.proofs.Common.{arith}
use Rattle.std.proofs.lemmas.Grind.{common_steps}
use Rattle.kpn_network.proofs.net.Net.ends.Goals as goal

pub returns-clause-writer : goal.returns-clause-writer
returns-clause-writer g c = grind (arith, common_steps)
