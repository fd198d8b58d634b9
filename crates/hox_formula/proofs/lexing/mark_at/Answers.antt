use Rattle.std.proofs.Common.{[], sym}
use Rattle.hox_formula.proofs.Lexed.{pair_spells, single_spells}
use Rattle.hox_formula.proofs.lexing.mark_at.Goals as goal

pub returns-in-Some : goal.returns-in-Some
returns-in-Some c = pair_spells c.args.bytes.now c.in-Some.found.1.now c.in-Some.found.0 c.in-Some.ensures

pub returns-in-Some-single_mark : goal.returns-in-Some-single_mark
returns-in-Some-single_mark c = single_spells c.args.bytes.now c.in_ok-first.behind.now c.in_ok-first.first c.in-Some-single_mark.mark c.in_ok-first.ensures c.in_default.ensures (sym c.in-Some-single_mark.ensures)
