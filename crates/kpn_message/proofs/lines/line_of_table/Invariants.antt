use Rattle.std.proofs.Common.{◌≡◌, ◌+◌, ◌≤◌}
use Rattle.kpn_message.specs.Lines.{begins_line, count_below, is_header, line_of}
use Rattle.kpn_message.proofs.lines.line_of_table.Given as goal

abbrev pub invariant-loop-i : goal.invariant-loop-i
invariant-loop-i l =
    (l.begins ≡ begins_line l.text l.i)
    × (l.line ≡ line_of l.text l.i)
    × (l.line ≤ l.i + 1)
    × (count_below (is_header l.text l.header) l.i + l.left ≡ l.k)
