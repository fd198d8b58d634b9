use Rattle.std.proofs.Common.{◌≡◌, take}
use Rattle.kpn_tokens.specs.Tables.{longest}
use Rattle.hox_stream.specs.Tables.{columns_of}
use Rattle.hox_stream.proofs.rows.longest.Given as goal

abbrev pub invariant-loop-lane : goal.invariant-loop-lane
invariant-loop-lane l = l.count ≡ longest (columns_of (take l.lane-index l.lanes))
