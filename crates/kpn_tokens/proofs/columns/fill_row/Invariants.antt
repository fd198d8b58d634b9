use Rattle.std.proofs.Common.{◌≡◌, map, take}
use Rattle.kpn_tokens.specs.Tables.{cell_at, column_of}
use Rattle.kpn_tokens.proofs.columns.fill_row.Given as goal

abbrev pub invariant-loop-column : goal.invariant-loop-column
invariant-loop-column l = l.row.items ≡ map (cell_at l.place) (map column_of (take l.column-index l.columns))
