-- One table more, for the channels at its places.
use Rattle.std.proofs.Common.{◌≡◌, ◌++◌, ◌∷◌, ◌∙◌, false, List, [], drop, length, rules, ap, sym}
use Rattle.hox_stream.specs.Serves.{new_lanes, new_table, new_tables}
use Rattle.hox_stream.specs.Views.{LaneView, TableView}
use Rattle.hox_stream.proofs.Behind.{behind_more, channels_behind, tables_more}
use Rattle.hox_stream.proofs.placing.tables_of.Goals as goal

pub loop-laid-preserved : goal.loop-laid-preserved
loop-laid-preserved g c =
    let laid = c.in-Some.laid in
    let channels = c.args.channels.now in
    let so_far = c.loop-laid.yielded in
    let count : c.len.result ≡ length laid.columns.items = search rules in
    let lanes : c.in_ok-lanes.lanes.items ≡ new_lanes laid.table (channels_behind channels so_far) laid.columns.items = c.in_ok-lanes.ensures ∙ ap (λ r. new_lanes laid.table r laid.columns.items) c.loop-laid.invariant.rest in
    let table : c.in_ok-outlet.outlet ≡ new_table g.S.Sink.seen (channels_behind channels so_far) laid =
    c.in_ok-outlet.ensures ∙ ap (λ (l : List LaneView). record { table = laid.table; lanes = l; contents = (g.S.Sink.seen laid.stream).contents; waiting = []; has_failed = false }) lanes in
    record {
      made =
          c.in_ok-push.ensures.items ∙ ap (λ (l : List TableView). l ++ c.in_ok-outlet.outlet ∷ []) c.loop-laid.invariant.made
          ∙ ap (λ (t : TableView). new_tables g.S.Sink.seen channels so_far ++ t ∷ []) table ∙ sym (tables_more g.S.Sink.seen channels so_far laid);
      rest = c.behind-left.ensures ∙ ap (λ n. drop n c.loop-laid.rest.now) count ∙ ap (λ l. drop (length laid.columns.items) l) c.loop-laid.invariant.rest ∙ sym (behind_more channels so_far laid);
    }
