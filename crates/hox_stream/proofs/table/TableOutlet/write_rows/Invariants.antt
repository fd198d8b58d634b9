use Rattle.hox_stream.specs.Tables.{RowsGo}
use Rattle.hox_stream.proofs.table.TableOutlet.write_rows.Given as goal

abbrev pub invariant-loop : goal.invariant-loop
invariant-loop g l = RowsGo l.initial.self l.self l.counter
