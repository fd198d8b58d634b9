-- The cards of a valid network have signatures.
use Rattle.std.proofs.Common.{arith}
use Rattle.std.proofs.lemmas.Grind.{common_steps}
use Rattle.kpn_network.proofs.net.Net.card.Goals as goal

-- Found without an answer too; with it a wrong body is refused at once.
pub returns-clause-is : goal.returns-clause-is
returns-clause-is g c = grind (arith, common_steps)
