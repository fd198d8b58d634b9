-- Tokens are taken into a column, and then rows are written.
use Rattle.std.proofs.Common.{◌≡◌, ◌<◌, List, ap, length, subst, sym, ◌∙◌, arith}
use Rattle.std.proofs.lemmas.Grind.{common_steps}
use Rattle.hox_stream.specs.Lanes.{TakesIn}
use Rattle.hox_stream.specs.Tables.{RowsGo, lane_at, only_at, shortest}
use Rattle.hox_stream.specs.Views.{LaneView, TableView}
use Rattle.hox_stream.proofs.Tabled.{ok_means, writes_refused, writes_taken}
use Rattle.hox_stream.proofs.table.TableOutlet.write.Goals as goal

pub returns-then-is_err-clause-writes : goal.returns-then-is_err-clause-writes
returns-then-is_err-clause-writes g c = writes_refused c.args.self.now c.take.new.self c.fail.new.self c.args.place (only_at c.args.place c.args.tokens.now) c.take.ensures.others c.take.ensures.head c.fail.ensures

pub returns-in_err-write_rows-clause-writes : goal.returns-in_err-write_rows-clause-writes
returns-in_err-write_rows-clause-writes g c =
    let p = c.args.self.now in
    let q = c.take.new.self in
    let count : c.shortest-count.result ≡ shortest q.lanes = c.shortest-count.ensures ∙ ap (λ (l : List LaneView). shortest l) (c.as_slice.ensures.value ∙ ap (λ (t : TableView). t.lanes) c.self-2.view_is) in
    let takes = ok_means (TakesIn (lane_at p c.args.place) (lane_at q c.args.place) c.args.tokens.now) c.take.result (sym c.is_err.ensures.value ∙ c.if-is_err.false) c.take.ensures.takes in
    writes_taken p q c.write_rows.new.self c.args.place c.requires c.args.tokens.now c.take.ensures.others takes (subst (λ n. RowsGo q c.write_rows.new.self n) count c.write_rows.ensures.rows)

pub returns-else-waiting-gt-MOST_AHEAD-clause-writes : goal.returns-else-waiting-gt-MOST_AHEAD-clause-writes
returns-else-waiting-gt-MOST_AHEAD-clause-writes g c =
    let p = c.args.self.now in
    let q = c.take.new.self in
    let count : c.shortest-count.result ≡ shortest q.lanes = c.shortest-count.ensures ∙ ap (λ (l : List LaneView). shortest l) (c.as_slice.ensures.value ∙ ap (λ (t : TableView). t.lanes) c.self-2.view_is) in
    let takes = ok_means (TakesIn (lane_at p c.args.place) (lane_at q c.args.place) c.args.tokens.now) c.take.result (sym c.is_err.ensures.value ∙ c.if-is_err.false) c.take.ensures.takes in
    writes_taken p q c.write_rows.new.self c.args.place c.requires c.args.tokens.now c.take.ensures.others takes (subst (λ n. RowsGo q c.write_rows.new.self n) count c.write_rows.ensures.rows)

pub returns-then-is_misfit-clause-writes : goal.returns-then-is_misfit-clause-writes
returns-then-is_misfit-clause-writes g c =
    let p = c.args.self.now in
    let q = c.take.new.self in
    let count : c.shortest-count.result ≡ shortest q.lanes = c.shortest-count.ensures ∙ ap (λ (l : List LaneView). shortest l) (c.as_slice.ensures.value ∙ ap (λ (t : TableView). t.lanes) c.self-2.view_is) in
    let takes = ok_means (TakesIn (lane_at p c.args.place) (lane_at q c.args.place) c.args.tokens.now) c.take.result (sym c.is_err.ensures.value ∙ c.if-is_err.false) c.take.ensures.takes in
    writes_taken p q c.write_rows.new.self c.args.place c.requires c.args.tokens.now c.take.ensures.others takes (subst (λ n. RowsGo q c.write_rows.new.self n) count c.write_rows.ensures.rows)

pub returns-then-waiting-gt-MOST_AHEAD-clause-writes : goal.returns-then-waiting-gt-MOST_AHEAD-clause-writes
returns-then-waiting-gt-MOST_AHEAD-clause-writes g c =
    let p = c.args.self.now in
    let q = c.take.new.self in
    let count : c.shortest-count.result ≡ shortest q.lanes = c.shortest-count.ensures ∙ ap (λ (l : List LaneView). shortest l) (c.as_slice.ensures.value ∙ ap (λ (t : TableView). t.lanes) c.self-2.view_is) in
    let takes = ok_means (TakesIn (lane_at p c.args.place) (lane_at q c.args.place) c.args.tokens.now) c.take.result (sym c.is_err.ensures.value ∙ c.if-is_err.false) c.take.ensures.takes in
    writes_taken p q c.write_rows.new.self c.args.place c.requires c.args.tokens.now c.take.ensures.others takes (subst (λ n. RowsGo q c.write_rows.new.self n) count c.write_rows.ensures.rows)

pub returns-then-is_misfit-clause-fault : goal.returns-then-is_misfit-clause-fault
returns-then-is_misfit-clause-fault g c =
    let within : c.args.place < length c.write_rows.new.self.lanes = grind (arith, common_steps) in
    let same = c.is_misfit.ensures ∙ ap (λ (lane : LaneView). lane.is_misfit) c.lane-lane.ensures in
    (c.args.place, within, sym same ∙ c.if-is_misfit.true)

pub returns-then-waiting-gt-MOST_AHEAD-clause-fault : goal.returns-then-waiting-gt-MOST_AHEAD-clause-fault
returns-then-waiting-gt-MOST_AHEAD-clause-fault g c =
    let within : c.args.place < length c.write_rows.new.self.lanes = grind (arith, common_steps) in
    let same = c.waiting.ensures ∙ ap (λ (lane : LaneView). length lane.waiting) c.lane-lane.ensures in
    (c.args.place, within, subst (λ n. 1000000 < n) same c.if-waiting-gt-MOST_AHEAD.true)

pub lane-lane-requires : goal.lane-lane-requires
lane-lane-requires g c = grind (arith, common_steps)
