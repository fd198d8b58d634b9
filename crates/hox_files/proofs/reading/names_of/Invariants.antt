use Rattle.std.proofs.Common.{◌≡◌, take}
use Rattle.hox_files.specs.Pairs.{channels_of}
use Rattle.hox_files.proofs.reading.names_of.Given as goal

abbrev pub invariant-loop-pair : goal.invariant-loop-pair
invariant-loop-pair l = l.names.items ≡ channels_of (take l.pair-index l.pairs)
