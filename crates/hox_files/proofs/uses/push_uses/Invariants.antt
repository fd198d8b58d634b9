use Rattle.std.proofs.Common.{◌≡◌, ◌++◌, map, take}
use Rattle.hox_files.specs.Uses.{used, used_for}
use Rattle.hox_files.proofs.uses.push_uses.Given as goal

abbrev pub invariant-loop-pair : goal.invariant-loop-pair
invariant-loop-pair l = map used l.uses.items ≡ map used l.fn.uses.items ++ map (used_for l.role) (take l.pair-index l.pairs)
