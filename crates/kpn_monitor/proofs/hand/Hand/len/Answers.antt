-- No answer was given, so all places hold a task.
use Rattle.std.proofs.Common.{◌≡◌, arith}
use Rattle.kpn_monitor.proofs.Placing.{left_many}
use Rattle.kpn_monitor.proofs.hand.Hand.len.Goals as goal

pub returns-clause-len : goal.returns-clause-len
returns-clause-len g c =
    let many = left_many c.self-inside.invariant.0 in
    let none : c.self-inside.inside.0.0.given ≡ 0 = rw (← c.self-inside.view_is) at c.self.invariant.0 in
    rw (← c.self.view_is, ← c.self-inside.view_is) (omega (arith, c.len.ensures, many, none))

pub returns-clause-few : goal.returns-clause-few
returns-clause-few g c = let few = c.self-inside.invariant.0.few in omega (arith, c.len.ensures, few)
