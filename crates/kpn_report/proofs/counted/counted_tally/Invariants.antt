use Rattle.std.proofs.Common.{◌≡◌, ◌<◌, ℕ, length, get_or}
use Rattle.kpn_report.specs.Tally.{counts_of, no_counts}
use Rattle.kpn_report.proofs.counted.counted_tally.Given as goal

abbrev pub invariant-loop-c : goal.invariant-loop-c
invariant-loop-c g l = record {
  count : length l.channel_counts.items ≡ l.c;
  each : (b : ℕ) → b < l.c → get_or l.channel_counts.items b no_counts ≡ counts_of l.net l.tallied.entries b;
}
