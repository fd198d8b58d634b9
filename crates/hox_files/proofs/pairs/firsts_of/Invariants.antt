use Rattle.std.proofs.Common.{◌≡◌, take}
use Rattle.hox_files.specs.Pairs.{firsts}
use Rattle.hox_files.proofs.pairs.firsts_of.Given as goal

abbrev pub invariant-loop-pair : goal.invariant-loop-pair
invariant-loop-pair l = l.firsts.items ≡ firsts (take l.pair-index l.pairs)
