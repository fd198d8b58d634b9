use Rattle.std.proofs.Common.{◌≡◌, ◌<◌, ℕ, [], length, get_or}
use Rattle.kpn_model.specs.History.{stream}
use Rattle.kpn_report.proofs.streams.first_streams.Given as goal

abbrev pub invariant-loop-c : goal.invariant-loop-c
invariant-loop-c g l = record {
  count : length l.streams.items ≡ l.c;
  each : (b : ℕ) → b < l.c → get_or l.streams.items b [] ≡ stream l.net [] b;
}
