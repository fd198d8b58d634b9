-- The shortest column so far, and the next one.
use Rattle.std.proofs.Common.{◌≡◌, ◌<◌, ◌+◌, ◌++◌, ◌∷◌, [], get_or, length, min, take, rules, ap, ◌∙◌, arith}
use Rattle.std.proofs.lemmas.Grind.{common_steps}
use Rattle.std.proofs.lemmas.List.{get_or_default, take_more}
use Rattle.hox_stream.specs.Tables.{shortest}
use Rattle.hox_stream.specs.Views.{LaneView, no_lane}
use Rattle.hox_stream.proofs.Lanes.{shortest_more}
use Rattle.hox_stream.proofs.rows.shortest_of.Goals as goal

pub loop-lane-preserved : goal.loop-lane-preserved
loop-lane-preserved c =
    let others = c.args.others.now in
    let i = c.loop-lane.lane-index in
    let within : i < length others = search rules in
    let next : take (i + 1) others ≡ take i others ++ get_or others i no_lane ∷ [] = take_more others i no_lane within in
    let item = get_or_default others i c.lane-item.result no_lane within in
    let waiting : c.waiting.result ≡ length (get_or others i no_lane).waiting = c.waiting.ensures ∙ ap (λ (l : LaneView). length l.waiting) (c.lane-item.is ∙ item) in
    let so_far = shortest (c.args.first.now ∷ take i others) in
    rw (next, shortest_more c.args.first.now (take i others) (get_or others i no_lane))
    (c.min-count.ensures ∙ ap (λ n. min n c.waiting.result) c.loop-lane.invariant ∙ ap (λ n. min so_far n) waiting)

pub returns : goal.returns
returns c = grind (arith, common_steps)
