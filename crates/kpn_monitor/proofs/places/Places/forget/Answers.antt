-- The tasks lie in at most 64 places, and only tasks are called.
use Rattle.std.proofs.Common.{arith}
use Rattle.kpn_monitor.proofs.Placing.{left_many}
use Rattle.kpn_monitor.proofs.places.Places.forget.Goals as goal

pub returns-clause-few : goal.returns-clause-few
returns-clause-few g c = let many = left_many c.self.invariant.0 in let few = c.self.invariant.0.few in rw (← c.self.view_is) (omega arith)

pub returns-clause-within : goal.returns-clause-within
returns-clause-within g c = let many = left_many c.self.invariant.0 in let within = c.self.invariant.0.within in rw (← c.self.view_is) (omega arith)
