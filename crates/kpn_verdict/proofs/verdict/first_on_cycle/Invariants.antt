use Rattle.std.proofs.Common.{◌≡◌, ◌<◌, ℕ, false}
use Rattle.kpn_model.specs.Waits.{is_on_cycle}
use Rattle.kpn_verdict.proofs.verdict.first_on_cycle.Given as goal

abbrev pub invariant-loop-process : goal.invariant-loop-process
invariant-loop-process g l = (q : ℕ) → q < l.process → is_on_cycle l.net l.places q ≡ false
