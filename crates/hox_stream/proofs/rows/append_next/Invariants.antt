use Rattle.std.proofs.Common.{◌≡◌, ◌++◌, drop, map, take}
use Rattle.kpn_tokens.specs.Tables.{first_cell}
use Rattle.hox_stream.specs.Tables.{columns_of, under}
use Rattle.hox_stream.proofs.rows.append_next.Given as goal

abbrev pub invariant-loop-k : goal.invariant-loop-k
invariant-loop-k l = record {
  row : l.row.items ≡ map first_cell (columns_of (take l.k l.initial.lanes));
  lanes : l.lanes ≡ map under (take l.k l.initial.lanes) ++ drop l.k l.initial.lanes;
}
