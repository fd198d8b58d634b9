-- Those so far, and what is to come of the channels that are left.
use Rattle.std.proofs.Common.{◌≡◌, ◌++◌, take, drop}
use Rattle.hox_network.specs.Copies.{copy_at, each, each_from}
use Rattle.hox_network.proofs.copies.copies.Given as goal

abbrev pub invariant-loop-c : goal.invariant-loop-c
invariant-loop-c g l =
    let at = copy_at g.K.Kinds.named g.K.Kinds.signature l.sketch l.names in
    l.all.items ++ each_from at (take l.c l.channels) (drop l.c l.channels) ≡ each at l.channels
