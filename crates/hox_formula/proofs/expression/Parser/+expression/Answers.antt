use Rattle.std.proofs.Common.{◌∙◌, ◌∷◌, sym, ap, subst}
use Rattle.std.proofs.lemmas.Result.{IfOk-weaker}
use Rattle.hox_formula.specs.declared.symbol.Mark.{Mark}
use Rattle.hox_formula.specs.declared.symbol.Symbol.{Symbol}
use Rattle.hox_formula.specs.Grammar.{sign}
use Rattle.hox_formula.specs.Parsing.{naming, Parsed}
use Rattle.hox_formula.proofs.Parsed.{parsed_number, parsed_name, parsed_tighter, parsed_between, parsed_choice, parsed_front, parsed_nested, parsed_absolute, parsed_call}
use Rattle.hox_formula.proofs.expression.Parser.+expression.Goals as goal

pub absolute-returns : goal.absolute-returns
absolute-returns t c =
    parsed_absolute (naming c.args.self.now.names.now) c.args.symbols.now c.in_ok-rest.rest.now c.in_ok-inner.rest.now c.in_ok-rest-2.rest.now c.in_ok-inner.inner c.in_ok-size.field-0
    c.in_ok-rest.ensures c.in_ok-inner.ensures c.in_ok-rest-2.ensures c.in_ok-size.ensures

pub branches-returns : goal.branches-returns
branches-returns t c xs condition says means =
    parsed_choice (naming c.args.self.now.names.now) xs c.args.symbols.now c.in_ok-first.rest.now c.in_ok-rest.rest.now c.in_ok-second.rest.now condition c.args.condition c.in_ok-first.first c.in_ok-second.second c.in_ok-choice.field-0
    says means c.in_ok-first.ensures c.in_ok-rest.ensures c.in_ok-second.ensures c.in_ok-choice.ensures

pub call-returns : goal.call-returns
call-returns t c is =
    parsed_call (naming c.args.self.now.names.now) c.args.mark c.args.operation c.args.symbols.now c.in_ok-rest.rest.now c.in_ok-first.rest.now c.in_ok-rest-2.rest.now c.in_ok-second.rest.now c.in_ok-rest-3.rest.now c.in_ok-first.first c.in_ok-second.second c.in_ok-applied.field-0
    is c.in_ok-rest.ensures c.in_ok-first.ensures c.in_ok-rest-2.ensures c.in_ok-second.ensures c.in_ok-rest-3.ensures c.in_ok-applied.ensures

pub level-loop-mark-init : goal.level-loop-mark-init
level-loop-mark-init t c = parsed_tighter (naming c.args.self.now.names.now) c.args.level c.args.symbols.now c.in_ok-first.rest.now c.in_ok-first.first c.in_ok-first.ensures

pub level-loop-mark-preserved : goal.level-loop-mark-preserved
level-loop-mark-preserved t c =
    parsed_between (naming c.args.self.now.names.now) c.in-Some.mark c.args.level c.args.symbols.now c.loop-mark.rest.now c.in-Some.more.now c.in_ok-second.left.now c.loop-mark.first c.in_ok-second.second c.in_ok-first-2.first
    c.requires.0 c.in-Some.ensures.1 c.in-Some.ensures.0 c.loop-mark.invariant c.in_ok-second.ensures c.in_ok-first-2.ensures

pub marked-returns-in_ok-rest-in-Open : goal.marked-returns-in_ok-rest-in-Open
marked-returns-in_ok-rest-in-Open t c =
    subst (λ (m : Mark). Parsed (naming c.args.self.now.names.now) 12 (sign m ∷ c.args.symbols.now) c.in_ok-rest-in-Open.rest.now c.in_ok-inner-in-Open.inner) (sym c.in-Open.is)
    (parsed_nested (naming c.args.self.now.names.now) c.args.symbols.now c.in_ok-inner-in-Open.rest.now c.in_ok-rest-in-Open.rest.now c.in_ok-inner-in-Open.inner c.in_ok-inner-in-Open.ensures c.in_ok-rest-in-Open.ensures)

pub primary-returns-in_ok-number-in-Number : goal.primary-returns-in_ok-number-in-Number
primary-returns-in_ok-number-in-Number t c =
    parsed_number (naming c.args.self.now.names.now) c.in-Number.number c.args.symbols.now c.in-Some.rest.now c.in_ok-number-in-Number.field-0
    (c.in-Some.ensures ∙ ap (λ (s : Symbol). s ∷ c.in-Some.rest.now) c.in-Number.is) c.in_ok-number-in-Number.ensures

pub primary-returns-in_ok-place-in-Some-place : goal.primary-returns-in_ok-place-in-Some-place
primary-returns-in_ok-place-in-Some-place t c =
    parsed_name (naming c.args.self.now.names.now) c.in-Some.first c.in-Some-place.place c.args.symbols.now c.in-Some.rest.now c.in_ok-place-in-Some-place.field-0
    c.in-Some.ensures (sym c.in-Some-place.ensures) c.in_ok-place-in-Some-place.ensures

pub whole-returns-in-None : goal.whole-returns-in-None
whole-returns-in-None t c = parsed_tighter (naming c.args.self.now.names.now) 0 c.args.symbols.now c.in_ok-condition.rest.now c.in_ok-condition.condition c.in_ok-condition.ensures

pub unary-returns-in_default : goal.unary-returns-in_default
unary-returns-in_default t c =
    IfOk-weaker c.primary.result _ _ (λ r p. parsed_tighter (naming c.args.self.now.names.now) 11 c.args.symbols.now r.1.now r.0 p) c.primary.ensures

pub unary-returns : goal.unary-returns
unary-returns t c =
    parsed_front (naming c.args.self.now.names.now) c.in-Some.mark c.args.symbols.now c.in-Some.rest.now c.in_ok-operand.left.now c.in_ok-operand.operand c.in_ok-fronted.field-0
    c.in-Some.ensures.1 c.in-Some.ensures.0 c.in_ok-operand.ensures c.in_ok-fronted.ensures
