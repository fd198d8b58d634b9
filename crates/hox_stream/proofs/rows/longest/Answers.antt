-- The longest column so far, and the next one.
use Rattle.std.proofs.Common.{◌≡◌, ◌<◌, ◌+◌, ◌++◌, ◌∷◌, [], get_or, length, take, rules, ap, ◌∙◌}
use Rattle.std.proofs.lemmas.List.{get_or_default, take_more}
use Rattle.hox_stream.specs.Views.{LaneView, no_lane}
use Rattle.hox_stream.proofs.Lanes.{longest_more}
use Rattle.hox_stream.proofs.rows.longest.Goals as goal

pub loop-lane-preserved : goal.loop-lane-preserved
loop-lane-preserved c =
    let lanes = c.args.lanes.now in
    let i = c.loop-lane.lane-index in
    let within : i < length lanes = search rules in
    let next : take (i + 1) lanes ≡ take i lanes ++ get_or lanes i no_lane ∷ [] = take_more lanes i no_lane within in
    let item = get_or_default lanes i c.lane-item.result no_lane within in
    let waiting : c.waiting-waiting.result ≡ length (get_or lanes i no_lane).waiting = c.waiting-waiting.ensures ∙ ap (λ (l : LaneView). length l.waiting) (c.lane-item.is ∙ item) in
    rw (next, longest_more (take i lanes) (get_or lanes i no_lane), ← waiting, ← c.loop-lane.invariant) (search rules)
