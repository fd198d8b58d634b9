-- All rows that are left are written, and then written out.
use Rattle.std.proofs.Common.{◌≡◌, List, ap, subst, ◌∙◌}
use Rattle.kpn_tokens.specs.Tables.{longest}
use Rattle.hox_stream.specs.Tables.{RowsGo, columns_of}
use Rattle.hox_stream.specs.Views.{LaneView, TableView}
use Rattle.hox_stream.proofs.Tabled.{rows_flushed}
use Rattle.hox_stream.proofs.table.TableOutlet.end.Goals as goal

pub returns : goal.returns
returns g c =
    let count : c.longest-count.result ≡ longest (columns_of c.args.self.now.lanes) = c.longest-count.ensures ∙ ap (λ (l : List LaneView). longest (columns_of l)) (c.as_slice.ensures.value ∙ ap (λ (t : TableView). t.lanes) c.self.view_is) in
    record {
      ends = record {
        rows = subst (λ n. RowsGo c.args.self.now c.flush.new.self n) count (rows_flushed _ _ _ _ c.write_rows.ensures.rows c.flush.ensures.flushes);
        emptied = c.flush.ensures.flushes.emptied;
      };
      failed = c.flush.ensures.failed;
    }
