use Rattle.std.proofs.Common.{◌≡◌, false, take}
use Rattle.std.specs.List.{list_any}
use Rattle.csv.specs.Records.{fields_of}
use Rattle.kpn_tokens.specs.Rows.{is_open_field}
use Rattle.kpn_tokens.proofs.rows.is_open.Given as goal

-- no field so far goes on
abbrev pub invariant-loop-place : goal.invariant-loop-place
invariant-loop-place l = list_any is_open_field (take l.place (fields_of l.row)) ≡ false
