use Rattle.std.proofs.Common.{◌∙◌, sym, arith}
use Rattle.kpn_formula.proofs.Places.{ends_past, ends_here, stands_here}
use Rattle.kpn_formula.proofs.reading.code_at.Goals as goal

pub returns-then-place-ge-DIGITS-clause-stands : goal.returns-then-place-ge-DIGITS-clause-stands
returns-then-place-ge-DIGITS-clause-stands c = ends_past c.args.card.now c.args.place (omega arith)

pub returns-then-code-eq0-clause-stands : goal.returns-then-code-eq0-clause-stands
returns-then-code-eq0-clause-stands c = ends_here c.args.card.now c.args.place c.digit-code.ensures.arguments (omega arith) (sym c.digit-code.ensures.is ∙ c.if-code-eq0.true)

pub returns-clause-stands : goal.returns-clause-stands
returns-clause-stands c = stands_here c.args.card.now c.args.place c.digit-code.result c.digit-code.ensures.arguments (omega arith) c.digit-code.ensures.is c.digit-code.ensures.bound c.if-code-eq0.false
