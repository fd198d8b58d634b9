-- Found without an answer too; with it a wrong body is refused at once.
use Rattle.std.proofs.Common.{arith}
use Rattle.std.proofs.lemmas.Grind.{common_steps}
use Rattle.kpn_network.proofs.net.Net.tokens.Goals as goal

pub returns : goal.returns
returns g c = grind (arith, common_steps)
