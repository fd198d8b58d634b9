use Rattle.std.proofs.Common.{◌≡◌, map, take}
use Rattle.serde_json.specs.View.{view}
use Rattle.hox_json.specs.Json.{growth_data, words_after}
use Rattle.hox_json.proofs.values.growths.Given as goal

abbrev pub invariant-loop-line : goal.invariant-loop-line
invariant-loop-line l = map view l.items.items ≡ map (λ line. growth_data (words_after line)) (map (λ s. s.now) (take l.line-index l.lines))
