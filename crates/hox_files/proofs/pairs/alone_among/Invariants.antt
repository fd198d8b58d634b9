use Rattle.std.proofs.Common.{◌≡◌, take}
use Rattle.std.specs.List.{filter}
use Rattle.hox_files.specs.Pairs.{is_alone}
use Rattle.hox_files.proofs.pairs.alone_among.Given as goal

abbrev pub invariant-loop-pair : goal.invariant-loop-pair
invariant-loop-pair l = l.alone.items ≡ filter is_alone (take l.pair-index l.pairs)
