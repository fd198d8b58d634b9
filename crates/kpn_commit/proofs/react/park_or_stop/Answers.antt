-- Who can't go on is parked, and who stops has stopped.
use Rattle.kpn_commit.proofs.Onward.{left_unready}
use Rattle.kpn_commit.proofs.react.park_or_stop.Goals as goal

pub returns-clause-unready : goal.returns-clause-unready
returns-clause-unready g c = left_unready _ _ _ _ _ _ c.requires.answered.wants c.requires.cannot c.react.result _ _ c.requires.answered.process c.react.ensures.reacts
