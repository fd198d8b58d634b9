use Rattle.std.proofs.Common.{◌≡◌, take}
use Rattle.hox_network.specs.Copies.{last_position, shares}
use Rattle.hox_network.proofs.copies.nearest.Given as goal

abbrev pub invariant-loop-k : goal.invariant-loop-k
invariant-loop-k g l = l.found ≡ last_position (shares g.K.Kinds.named g.K.Kinds.signature l.sketch l.channel) (take l.k l.earlier)
