use Rattle.std.proofs.Common.{drop}
use Rattle.hox_files.specs.Pairs.{groups}
use Rattle.hox_execute.specs.Streaming.{IsTabled}
use Rattle.hox_files.proofs.Parted.{Completes}
use Rattle.hox_execute.proofs.sinks.tables_of.Given as goal

abbrev pub invariant-loop-k : goal.invariant-loop-k
invariant-loop-k g l = Completes (IsTabled g.S.Output.Sink.seen l.rate) (groups l.pairs) l.tables.items (groups (drop l.k l.pairs))
