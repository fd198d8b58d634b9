-- Every run takes the least room.
use Rattle.std.proofs.Common.{subst}
use Rattle.kpn_model.specs.Semantics.{IsRun}
use Rattle.kpn_model.specs.Network.{Family}
use Rattle.kpn_laws.specs.RoomOfRun.{EachTakesLeastRoom}
use Rattle.kpn_laws.proofs.LeastRoom.{grows_below, stays_below, ceiling_suffices}
use Rattle.kpn_laws.proofs.FewGrowths.{few_growths}
use Rattle.kpn_laws.proofs.Completing.{few_entries}

-- what the laws say of a run
pub each_takes_least_room : (kinds : Family) → EachTakesLeastRoom kinds
each_takes_least_room kinds net E M run =
    record {
      within = λ b s.
          record {
            growths_below = λ F G c to is. grows_below kinds net b s F G M c to (subst (λ H. IsRun kinds net H M) is run);
            capacities_below = stays_below kinds net b s E M run;
            few_growths = λ some. few_growths kinds net b s some E M run;
            below_ceiling = λ enough over. ceiling_suffices kinds net b s enough E M (record { run = run; over = over });
          };
      few_entries = λ b s some. few_entries kinds net b s some E M run;
    }
