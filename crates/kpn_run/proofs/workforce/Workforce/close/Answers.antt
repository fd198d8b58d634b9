-- All seats come back, so the monitor closes; and if each has met an end, so has the run.
use Rattle.std.proofs.Common.{◌∙◌, arith}
use Rattle.kpn_run.proofs.Slots.{some_met, not_refused}
use Rattle.kpn_run.proofs.workforce.Workforce.close.Goals as goal

pub unreachable-requires : goal.unreachable-requires
unreachable-requires g c =
    not_refused _ _ c.in-Err.is (c.close.ensures.whole (c.leave_all.ensures.parts ∙ c.self.invariant.0))

pub returns-clause-ended : goal.returns-clause-ended
returns-clause-ended g c = λ met.
    let left = c.in_default.ensures in
    some_met _ c.leave_all.new.seats.items (omega (arith, c.self.invariant.1, left.len)) (left.met (rw (← c.self.view_is) at met)) c.in-Ok.ensures.ended
