use Rattle.std.proofs.Common.{◌≡◌, ◌≤◌}
use Rattle.kpn_message.specs.Lines.{begins_line, count_below, is_header}
use Rattle.kpn_message.proofs.lines.count_headers.Given as goal

abbrev pub invariant-loop-i : goal.invariant-loop-i
invariant-loop-i l =
    (l.begins ≡ begins_line l.text l.i)
    × (l.count ≡ count_below (is_header l.text l.header) l.i)
    × (l.count ≤ l.i)
