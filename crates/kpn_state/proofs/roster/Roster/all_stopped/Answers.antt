-- All have stopped if none is counted as live.
use Rattle.std.proofs.Common.{sym, ap, ◌∙◌}
use Rattle.std.specs.Prelude.{nat_eq}
use Rattle.kpn_state.proofs.Rostered.{stopped_counted}
use Rattle.kpn_state.proofs.roster.Roster.all_stopped.Goals as goal

pub returns : goal.returns
returns c = rw (← c.self.view_is) (ap (λ n. nat_eq n 0) c.self.invariant.live_is ∙ sym (stopped_counted c.self.inside.standings.items))
