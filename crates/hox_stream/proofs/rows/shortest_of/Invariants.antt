use Rattle.std.proofs.Common.{◌≡◌, ◌∷◌, take}
use Rattle.hox_stream.specs.Tables.{shortest}
use Rattle.hox_stream.proofs.rows.shortest_of.Given as goal

abbrev pub invariant-loop-lane : goal.invariant-loop-lane
invariant-loop-lane l = l.count ≡ shortest (l.first ∷ take l.lane-index l.others)
