use Rattle.std.proofs.Common.{◌≡◌, ◌++◌, take}
use Rattle.kpn_tokens.specs.Rows.{cells_text}
use Rattle.kpn_tokens.proofs.tables.append_line.Given as goal

abbrev pub invariant-loop-place : goal.invariant-loop-place
invariant-loop-place l = l.out.items ≡ l.initial.out.items ++ cells_text l.separator (take l.place l.cells)
