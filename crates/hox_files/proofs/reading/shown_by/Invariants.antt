use Rattle.std.proofs.Common.{◌≡◌, map, take}
use Rattle.hox_files.specs.Requests.{shown_as}
use Rattle.hox_files.proofs.reading.shown_by.Given as goal

abbrev pub invariant-loop-name : goal.invariant-loop-name
invariant-loop-name l = l.shown.items ≡ map (shown_as (map (λ s. s.now) l.unsigned)) (map (λ s. s.now) (take l.name-index l.show))
