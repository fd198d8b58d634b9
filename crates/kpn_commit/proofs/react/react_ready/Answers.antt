-- A process that is ready is one of the network's.
use Rattle.std.proofs.Common.{refl}
use Rattle.kpn_state.proofs.Placed.{standing_within}
use Rattle.kpn_commit.proofs.react.react_ready.Goals as goal

pub react_on-requires-after_bounds : goal.react_on-requires-after_bounds
react_on-requires-after_bounds g c κs within =
    record {
      coherent = c.requires.coherent;
      process = standing_within c.args.core.now.standings c.args.process (λ e. cc);
      wants = c.requires.wants;
      busy = rw c.requires.ready refl;
      room = c.requires.room;
    }
