use Rattle.std.proofs.Common.{◌≡◌, map, take}
use Rattle.hox_files.specs.Requests.{written_as}
use Rattle.hox_files.proofs.reading.written_by.Given as goal

abbrev pub invariant-loop-pair : goal.invariant-loop-pair
invariant-loop-pair l = l.written.items ≡ map written_as (take l.pair-index l.pairs)
