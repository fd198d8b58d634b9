use Rattle.std.proofs.Common.{take}
use Rattle.std.specs.List.{AllZip, filter}
use Rattle.hox_files.specs.Pairs.{is_alone}
use Rattle.hox_execute.specs.Streaming.{IsCreated}
use Rattle.hox_execute.proofs.sinks.sinks_of.Given as goal

abbrev pub invariant-loop-k : goal.invariant-loop-k
invariant-loop-k g l = AllZip (IsCreated g.S.Output.Sink.seen l.rate) (filter is_alone (take l.k l.pairs)) l.sinks.items
