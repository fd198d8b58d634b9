-- Found without an answer too; with it a wrong body is refused at once.
use Rattle.std.proofs.Common.{arith}
use Rattle.std.proofs.lemmas.Grind.{common_steps}
use Rattle.kpn_flow.proofs.ends.stops_at_once.Goals as goal

pub returns-in-Stop : goal.returns-in-Stop
returns-in-Stop g c = grind (arith, common_steps)
