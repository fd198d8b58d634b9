-- A row more.
use Rattle.std.proofs.Common.{append_assoc, rules}
use Rattle.kpn_tokens.proofs.RowsOn.{one_row_more}
use Rattle.kpn_tokens.proofs.columns.append_table.Goals as goal

pub loop-place-preserved : goal.loop-place-preserved
loop-place-preserved c = search (rules, one_row_more, append_assoc)
