-- Found without an answer too; with it a wrong body is refused at once.
use Rattle.std.proofs.Common.{arith}
use Rattle.std.proofs.lemmas.Grind.{common_steps}
use Rattle.kpn_net.proofs.ports.has_wrong_args.Goals as goal

pub returns-else-any : goal.returns-else-any
returns-else-any g c = grind (arith, common_steps)

pub returns-then-any : goal.returns-then-any
returns-then-any g c = grind (arith, common_steps)
