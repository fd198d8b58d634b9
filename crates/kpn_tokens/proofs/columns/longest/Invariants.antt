use Rattle.std.proofs.Common.{◌≡◌, map, take}
use Rattle.kpn_tokens.specs.Tables.{column_of, longest}
use Rattle.kpn_tokens.proofs.columns.longest.Given as goal

abbrev pub invariant-loop-column : goal.invariant-loop-column
invariant-loop-column l = l.count ≡ longest (map column_of (take l.column-index l.columns))
