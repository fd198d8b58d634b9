-- The standings fit the state.
use Rattle.std.proofs.Common.{refl}
use Rattle.kpn_commit.proofs.Idle.{enabled_busy}
use Rattle.kpn_machine.proofs.Sound.{idle_wants}
use Rattle.kpn_flow.proofs.flow.Flow.assure_standings.Goals as goal

pub returns-clause-wanted : goal.returns-clause-wanted
returns-clause-wanted g c = rw (← c.self.view_is) (λ p idle. idle_wants c.self.invariant.0.fits.keeps p _ refl idle)

pub returns-clause-busy : goal.returns-clause-busy
returns-clause-busy g c = rw (← c.self.view_is) (λ p enabled. enabled_busy c.self.invariant.0.fits.keeps p enabled)
