use Rattle.std.proofs.Common.{◌≡◌, take}
use Rattle.kpn_model.specs.History.{growths}
use Rattle.kpn_report.specs.Tally.{CountsSteps, KeepsCounts}
use Rattle.kpn_report.proofs.tally.tally_of.Given as goal

abbrev pub invariant-loop-k : goal.invariant-loop-k
invariant-loop-k g l = record {
  steps : CountsSteps l.net (take l.k (g.E.Entries.entries l.history)) l.steps.items;
  channel_counts : KeepsCounts l.net (take l.k (g.E.Entries.entries l.history)) l.channel_counts.items;
  growths : l.growths.items ≡ growths (take l.k (g.E.Entries.entries l.history));
}
