use Rattle.std.proofs.Common.{◌≡◌, ◌<◌, ℕ, [], drop, length, get_or}
use Rattle.kpn_report.specs.Tally.{counts_at}
use Rattle.kpn_report.proofs.detail.rests.Given as goal

abbrev pub invariant-loop-c : goal.invariant-loop-c
invariant-loop-c l = record {
  count : length l.rests.items ≡ l.c;
  each : (b : ℕ) → b < l.c → get_or l.rests.items b [] ≡ drop (counts_at l.channel_counts b).taken (get_or l.streams b []);
}
