use Rattle.std.proofs.Common.{◌≡◌, ◌<◌, ℕ, length, get_or}
use Rattle.kpn_model.specs.History.{deeds}
use Rattle.kpn_report.proofs.counted.counted_steps.Given as goal

abbrev pub invariant-loop-p : goal.invariant-loop-p
invariant-loop-p g l = record {
  count : length l.steps.items ≡ l.p;
  each : (b : ℕ) → b < l.p → get_or l.steps.items b 0 ≡ length (deeds l.tallied.entries b);
}
