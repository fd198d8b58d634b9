use Rattle.std.proofs.Common.{◌≡◌, filter, map}
use Rattle.std.specs.List.{range_with_len}
use Rattle.hox_network.specs.Copies.{is_free, numbered}
use Rattle.hox_network.proofs.copies.free_names.Given as goal

abbrev pub invariant-loop-k : goal.invariant-loop-k
invariant-loop-k l = l.names.items ≡ filter (is_free l.sketch) (map numbered (range_with_len 0 l.k))
