use Rattle.std.proofs.Common.{◌≡◌, ◌≤◌}
use Rattle.kpn_message.specs.Lines.{count_below, stands_at}
use Rattle.kpn_message.proofs.lines.count_word.Given as goal

abbrev pub invariant-loop-i : goal.invariant-loop-i
invariant-loop-i l = (l.count ≡ count_below (stands_at l.text l.word) l.i) × (l.count ≤ l.i)
