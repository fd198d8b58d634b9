-- Found without an answer too; with it a wrong body is refused at once.
use Rattle.std.proofs.Common.{rules}
use Rattle.kpn_observe.proofs.crew.CrewSeat.work.Goals as goal

pub returns : goal.returns
returns g c = search rules
