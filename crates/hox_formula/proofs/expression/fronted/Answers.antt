use Rattle.std.proofs.Common.{sym, subst}
use Rattle.std.proofs.lemmas.Result.{IfOk-weaker}
use Rattle.hox_formula.specs.declared.symbol.Mark.{Mark}
use Rattle.hox_formula.specs.Expressions.{Constant}
use Rattle.hox_formula.specs.Grammar.{fronted}
use Rattle.hox_formula.specs.Fragments.{Means}
use Rattle.hox_formula.proofs.expression.fronted.Goals as goal

pub returns-in_ok-zero-in-Minus : goal.returns-in_ok-zero-in-Minus
returns-in_ok-zero-in-Minus c = IfOk-weaker c.applied.result _ _
    (λ f h e operand. subst (λ (m : Mark). Means f (fronted m e)) (sym c.in-Minus.is) (h (Constant 0) e c.in_ok-zero-in-Minus.ensures operand)) c.applied.ensures

pub returns-in_ok-ones-in-Invert : goal.returns-in_ok-ones-in-Invert
returns-in_ok-ones-in-Invert c = IfOk-weaker c.applied-in-Invert.result _ _
    (λ f h e operand. subst (λ (m : Mark). Means f (fronted m e)) (sym c.in-Invert.is) (h e (Constant 18446744073709551615) operand c.in_ok-ones-in-Invert.ensures)) c.applied-in-Invert.ensures
