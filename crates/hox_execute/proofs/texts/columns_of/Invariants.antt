use Rattle.std.proofs.Common.{◌≡◌, ◌++◌, drop, map}
use Rattle.kpn_tokens.specs.Tables.{column_of}
use Rattle.hox_execute.specs.Reports.{columns}
use Rattle.hox_execute.proofs.texts.columns_of.Given as goal

abbrev pub invariant-loop-k : goal.invariant-loop-k
invariant-loop-k l = map column_of l.columns.items ++ columns (drop l.k l.pairs) (drop l.k l.files) ≡ columns l.pairs l.files
