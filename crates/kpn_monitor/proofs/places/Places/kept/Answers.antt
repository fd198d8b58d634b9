-- As many tasks went out again as the first places hold.
use Rattle.std.proofs.Common.{sym}
use Rattle.kpn_monitor.proofs.Placing.{kept_many}
use Rattle.kpn_monitor.proofs.places.Places.kept.Goals as goal

pub returns : goal.returns
returns g c = rw (← c.self.view_is) (sym (kept_many c.self.invariant.0))
