use Rattle.std.proofs.Common.{◌≡◌, take}
use Rattle.std.specs.List.{filter}
use Rattle.hox_files.specs.Pairs.{is_grouped}
use Rattle.hox_files.proofs.pairs.grouped_among.Given as goal

abbrev pub invariant-loop-pair : goal.invariant-loop-pair
invariant-loop-pair l = l.grouped.items ≡ filter is_grouped (take l.pair-index l.pairs)
