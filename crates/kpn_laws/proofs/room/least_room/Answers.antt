-- How much room a run takes.
use Rattle.kpn_laws.proofs.Sufficient.{own_end, keeps_capacities}
use Rattle.kpn_laws.proofs.LeastRoom.{chosen_has_fewer, grows_below, stays_below, least_possible, ceiling_suffices, dominates}
use Rattle.kpn_laws.proofs.FewGrowths.{few_growths}
use Rattle.kpn_laws.proofs.RoomOfRun.{each_takes_least_room}
use Rattle.kpn_laws.proofs.room.least_room.Goals as goal

pub returns : goal.returns
returns c = λ kinds. record {
  chosen_has_fewer = chosen_has_fewer kinds;
  grows_below = grows_below kinds;
  stays_below = stays_below kinds;
  least_possible = least_possible kinds;
  few_growths = few_growths kinds;
  ceiling_suffices = ceiling_suffices kinds;
  dominates = dominates kinds;
  own_end = own_end kinds;
  keeps_capacities = keeps_capacities kinds;
  each_run = each_takes_least_room kinds;
}
