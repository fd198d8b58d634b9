use Rattle.std.proofs.Common.{◌≡◌, ◌-◌}
use Rattle.kpn_model.specs.Waits.{is_met}
use Rattle.kpn_verdict.proofs.waits.is_met.Given as goal

abbrev pub invariant-loop-step : goal.invariant-loop-step
invariant-loop-step g l = is_met l.net l.places (l.steps - l._step) l.goal l.at ≡ is_met l.net l.places l.steps l.goal l.from
