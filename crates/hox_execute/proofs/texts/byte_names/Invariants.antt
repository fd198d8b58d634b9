use Rattle.std.proofs.Common.{◌≡◌, map, take}
use Rattle.hox_files.specs.Pairs.{channels_of}
use Rattle.hox_execute.proofs.texts.byte_names.Given as goal

abbrev pub invariant-loop-pair : goal.invariant-loop-pair
invariant-loop-pair l = map (λ name. name.now) l.names.items ≡ channels_of (take l.pair-index l.pairs)
