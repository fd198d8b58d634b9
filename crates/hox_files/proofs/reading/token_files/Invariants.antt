use Rattle.std.proofs.Common.{take}
use Rattle.std.specs.List.{AllZip}
use Rattle.hox_files.specs.Requests.{IsRead}
use Rattle.hox_files.proofs.reading.token_files.Given as goal

abbrev pub invariant-loop-k : goal.invariant-loop-k
invariant-loop-k g l = AllZip (IsRead (g.S.FileSystem.contents l.files)) (take l.k l.pairs) l.read.items
