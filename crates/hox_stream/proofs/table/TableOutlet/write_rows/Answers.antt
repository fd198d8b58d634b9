-- One row after another.
use Rattle.hox_stream.proofs.Tabled.{rows_go_more, rows_go_none}
use Rattle.hox_stream.proofs.table.TableOutlet.write_rows.Goals as goal

pub loop-init : goal.loop-init
loop-init g c = rows_go_none _

pub loop-preserved : goal.loop-preserved
loop-preserved g c = rows_go_more _ _ _ _ c.loop.invariant c.write_row.ensures.rows
