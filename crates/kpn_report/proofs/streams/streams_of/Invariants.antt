use Rattle.std.proofs.Common.{take}
use Rattle.kpn_report.specs.Tally.{KeepsStreams}
use Rattle.kpn_report.proofs.streams.streams_of.Given as goal

abbrev pub invariant-loop-k : goal.invariant-loop-k
invariant-loop-k g l = KeepsStreams l.net (take l.k (g.E.Entries.entries l.history)) l.streams.items
