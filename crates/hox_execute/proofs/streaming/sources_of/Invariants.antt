use Rattle.std.proofs.Common.{take}
use Rattle.std.specs.List.{AllZip}
use Rattle.hox_format.specs.Resuming.{left_of, resumed_has_failed}
use Rattle.hox_execute.specs.Streaming.{IsOpened}
use Rattle.hox_execute.proofs.streaming.sources_of.Given as goal

abbrev pub invariant-loop-k : goal.invariant-loop-k
invariant-loop-k g l = AllZip (IsOpened (left_of g.S.Input.Source.remaining) (resumed_has_failed g.S.Input.Source.has_failed) (g.S.FileSystem.contents l.files)) (take l.k l.pairs) l.sources.items
