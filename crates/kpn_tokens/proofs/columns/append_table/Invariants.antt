use Rattle.std.proofs.Common.{◌≡◌, ◌++◌, map}
use Rattle.kpn_tokens.specs.Tables.{column_of, rows_text}
use Rattle.kpn_tokens.proofs.columns.append_table.Given as goal

abbrev pub invariant-loop-place : goal.invariant-loop-place
invariant-loop-place l = l.out.items ≡ l.fn.out.items ++ rows_text l.table l.place (map column_of l.columns)
