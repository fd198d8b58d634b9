use Rattle.std.proofs.Common.{◌≡◌, map, take}
use Rattle.serde_json.specs.View.{view}
use Rattle.hox_json.specs.Json.{token_data}
use Rattle.hox_json.proofs.values.tokens.Given as goal

abbrev pub invariant-loop-word : goal.invariant-loop-word
invariant-loop-word l = map view l.items.items ≡ map token_data (map (λ s. s.now) (take l.word-index l.words))
