use Rattle.std.proofs.Common.{◌≡◌, false, take}
use Rattle.std.specs.List.{list_any}
use Rattle.csv.specs.Records.{fields_of}
use Rattle.kpn_tokens.specs.Heads.{is_name}
use Rattle.kpn_tokens.proofs.names.place_named.Given as goal

-- no field so far has the name
abbrev pub invariant-loop-place : goal.invariant-loop-place
invariant-loop-place l = list_any (is_name l.name) (take l.place (fields_of l.names)) ≡ false
