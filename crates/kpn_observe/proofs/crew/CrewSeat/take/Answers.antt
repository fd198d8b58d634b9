-- What the monitor says of the seat.
use Rattle.kpn_observe.proofs.crew.CrewSeat.take.Goals as goal

pub returns : goal.returns
returns g c = rw (← c.self.view_is) c.take.ensures
