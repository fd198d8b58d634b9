use Rattle.std.proofs.Common.{drop, length}
use Rattle.hox_files.specs.Pairs.{IsPair, parts_from}
use Rattle.hox_files.proofs.Firsts.{texts_of}
use Rattle.hox_files.proofs.Parted.{Completes}
use Rattle.hox_files.proofs.pairs.pairs_for.Given as goal

abbrev pub invariant-loop-place : goal.invariant-loop-place
invariant-loop-place l = Completes (IsPair (texts_of l.formats.texts.now) (texts_of l.formats.unsigned.now)) (parts_from l.file (length l.names) 0 (texts_of l.names)) l.pairs.items (parts_from l.file (length l.names) l.place (drop l.place (texts_of l.names)))
