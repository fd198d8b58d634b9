use Rattle.std.proofs.Common.{◌≡◌, map, take}
use Rattle.serde_json.specs.View.{members_view}
use Rattle.hox_json.specs.Json.{named}
use Rattle.hox_json.specs.Told.{data_of}
use Rattle.hox_json.proofs.named.named.Given as goal

abbrev pub invariant-loop-line : goal.invariant-loop-line
invariant-loop-line l = members_view l.values.entries ≡ named (data_of l.told) (map (λ s. s.now) (take l.line-index l.lines))
