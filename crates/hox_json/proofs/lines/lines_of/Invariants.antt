use Rattle.std.proofs.Common.{◌≡◌, map, take}
use Rattle.hox_json.specs.Json.{lines_of}
use Rattle.hox_json.proofs.lines.lines_of.Given as goal

abbrev pub invariant-loop-line : goal.invariant-loop-line
invariant-loop-line l = map (λ s. s.now) l.found.items ≡ lines_of l.word (map (λ s. s.now) (take l.line-index l.lines))
