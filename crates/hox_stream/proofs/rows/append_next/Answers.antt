-- A row takes the first token of one column after another.
use Rattle.std.proofs.Common.{◌≡◌, ◌<◌, ◌+◌, ◌∙◌, ◌++◌, ◌∷◌, List, [], get_or, length, map, set, take, rules, sym, ap, arith}
use Rattle.std.proofs.lemmas.Grind.{common_steps}
use Rattle.std.proofs.lemmas.List.{get_or_default}
use Rattle.kpn_tokens.specs.declared.layouts.Cell.{Cell}
use Rattle.kpn_tokens.specs.Tables.{first_cell}
use Rattle.hox_stream.specs.Tables.{column_of, columns_of, heads_of, under}
use Rattle.hox_stream.specs.Views.{LaneView, no_lane}
use Rattle.hox_stream.proofs.Lanes.{cells_more, walked, walked_heads, walked_next}
use Rattle.hox_stream.proofs.rows.append_next.Goals as goal

pub returns-in_err-push-clause-heads : goal.returns-in_err-push-clause-heads
returns-in_err-push-clause-heads c =
    let lanes = c.args.lanes.now in
    let k = c.loop-k.k in
    let within : k < length lanes = search rules in
    let here : k < length c.loop-k.lanes = search rules in
    let walk = walked_next lanes k no_lane within in
    let first : get_or c.loop-k.lanes k c.index-lanes-k.result ≡ get_or lanes k no_lane = get_or_default c.loop-k.lanes k c.index-lanes-k.result no_lane here ∙ ap (λ (l : List LaneView). get_or l k no_lane) c.loop-k.invariant.lanes ∙ walk.0 in
    let left : c.pop-cell.new.self ≡ under (get_or lanes k no_lane) = c.pop-cell.ensures.left ∙ ap under first in
    let all : set c.loop-k.lanes k c.pop-cell.new.self ≡ walked (k + 1) lanes = ap (λ (l : List LaneView). set l k c.pop-cell.new.self) c.loop-k.invariant.lanes ∙ ap (λ (l : LaneView). set (walked k lanes) k l) left ∙ walk.1 in
    ap heads_of all ∙ walked_heads lanes (k + 1)

pub loop-k-preserved : goal.loop-k-preserved
loop-k-preserved c =
    let lanes = c.args.lanes.now in
    let k = c.loop-k.k in
    let within : k < length lanes = search rules in
    let here : k < length c.loop-k.lanes = search rules in
    let walk = walked_next lanes k no_lane within in
    let first : get_or c.loop-k.lanes k c.index-lanes-k.result ≡ get_or lanes k no_lane = get_or_default c.loop-k.lanes k c.index-lanes-k.result no_lane here ∙ ap (λ (l : List LaneView). get_or l k no_lane) c.loop-k.invariant.lanes ∙ walk.0 in
    let left : c.pop-cell.new.self ≡ under (get_or lanes k no_lane) = c.pop-cell.ensures.left ∙ ap under first in
    record {
      row = c.in_ok-push.ensures.items ∙ ap (λ (l : List Cell). l ++ c.pop-cell.result ∷ []) c.loop-k.invariant.row ∙ ap (λ (x : Cell). map first_cell (columns_of (take k lanes)) ++ x ∷ []) (c.pop-cell.ensures.cell ∙ ap (λ (l : LaneView). first_cell (column_of l)) first) ∙ sym (cells_more lanes k no_lane within);
      lanes = ap (λ (l : List LaneView). set l k c.pop-cell.new.self) c.loop-k.invariant.lanes ∙ ap (λ (l : LaneView). set (walked k lanes) k l) left ∙ walk.1;
    }

pub returns-clause-heads : goal.returns-clause-heads
returns-clause-heads c = ap heads_of c.loop-k.invariant.lanes ∙ walked_heads c.args.lanes.now c.loop-k.k

pub returns-clause-lanes : goal.returns-clause-lanes
returns-clause-lanes c = grind (arith, common_steps)
