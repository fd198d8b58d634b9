use Rattle.std.proofs.Common.{sym, subst}
use Rattle.std.proofs.lemmas.Result.{IfOk-weaker}
use Rattle.kpn_formula.specs.declared.instruction.Operation.TheVariants.{Subtract}
use Rattle.hox_formula.specs.declared.symbol.Mark.{Mark}
use Rattle.hox_formula.specs.Expressions.{Negation, Applied}
use Rattle.hox_formula.specs.Grammar.{joined}
use Rattle.hox_formula.specs.Fragments.{Means}
use Rattle.hox_formula.proofs.expression.join.Goals as goal

pub returns-in-OrElse : goal.returns-in-OrElse
returns-in-OrElse c = IfOk-weaker c.either.result _ _ (λ f h d e first second. subst (λ (m : Mark). Means f (joined m d e)) (sym c.in-OrElse.is) (h d e first second)) c.either.ensures

pub returns-in-AndAlso : goal.returns-in-AndAlso
returns-in-AndAlso c = IfOk-weaker c.both.result _ _ (λ f h d e first second. subst (λ (m : Mark). Means f (joined m d e)) (sym c.in-AndAlso.is) (h d e first second)) c.both.ensures

pub returns-in-Or : goal.returns-in-Or
returns-in-Or c = IfOk-weaker c.applied.result _ _ (λ f h d e first second. subst (λ (m : Mark). Means f (joined m d e)) (sym c.in-Or.is) (h d e first second)) c.applied.ensures

pub returns-in-ExclusiveOr : goal.returns-in-ExclusiveOr
returns-in-ExclusiveOr c = IfOk-weaker c.applied-in-ExclusiveOr.result _ _ (λ f h d e first second. subst (λ (m : Mark). Means f (joined m d e)) (sym c.in-ExclusiveOr.is) (h d e first second)) c.applied-in-ExclusiveOr.ensures

pub returns-in-And : goal.returns-in-And
returns-in-And c = IfOk-weaker c.applied-in-And.result _ _ (λ f h d e first second. subst (λ (m : Mark). Means f (joined m d e)) (sym c.in-And.is) (h d e first second)) c.applied-in-And.ensures

pub returns-in-Equal : goal.returns-in-Equal
returns-in-Equal c = IfOk-weaker c.equality.result _ _ (λ f h d e first second. subst (λ (m : Mark). Means f (joined m d e)) (sym c.in-Equal.is) (h d e first second)) c.equality.ensures

pub returns-in-Less : goal.returns-in-Less
returns-in-Less c = IfOk-weaker c.applied-in-Less.result _ _ (λ f h d e first second. subst (λ (m : Mark). Means f (joined m d e)) (sym c.in-Less.is) (h d e first second)) c.applied-in-Less.ensures

pub returns-in-LessEqual : goal.returns-in-LessEqual
returns-in-LessEqual c = IfOk-weaker c.unless.result _ _ (λ f h d e first second. subst (λ (m : Mark). Means f (joined m d e)) (sym c.in-LessEqual.is) (h e d second first)) c.unless.ensures

pub returns-in-GreaterEqual : goal.returns-in-GreaterEqual
returns-in-GreaterEqual c = IfOk-weaker c.unless-in-GreaterEqual.result _ _ (λ f h d e first second. subst (λ (m : Mark). Means f (joined m d e)) (sym c.in-GreaterEqual.is) (h d e first second)) c.unless-in-GreaterEqual.ensures

pub returns-in-ShiftLeft : goal.returns-in-ShiftLeft
returns-in-ShiftLeft c = IfOk-weaker c.applied-in-ShiftLeft.result _ _ (λ f h d e first second. subst (λ (m : Mark). Means f (joined m d e)) (sym c.in-ShiftLeft.is) (h d e first second)) c.applied-in-ShiftLeft.ensures

pub returns-in-ShiftRight : goal.returns-in-ShiftRight
returns-in-ShiftRight c = IfOk-weaker c.applied-in-ShiftRight.result _ _ (λ f h d e first second. subst (λ (m : Mark). Means f (joined m d e)) (sym c.in-ShiftRight.is) (h d e first second)) c.applied-in-ShiftRight.ensures

pub returns-in-Plus : goal.returns-in-Plus
returns-in-Plus c = IfOk-weaker c.applied-in-Plus.result _ _ (λ f h d e first second. subst (λ (m : Mark). Means f (joined m d e)) (sym c.in-Plus.is) (h d e first second)) c.applied-in-Plus.ensures

pub returns-in-Minus : goal.returns-in-Minus
returns-in-Minus c = IfOk-weaker c.applied-in-Minus.result _ _ (λ f h d e first second. subst (λ (m : Mark). Means f (joined m d e)) (sym c.in-Minus.is) (h d e first second)) c.applied-in-Minus.ensures

pub returns-in-Times : goal.returns-in-Times
returns-in-Times c = IfOk-weaker c.applied-in-Times.result _ _ (λ f h d e first second. subst (λ (m : Mark). Means f (joined m d e)) (sym c.in-Times.is) (h d e first second)) c.applied-in-Times.ensures

pub returns-in-Divide : goal.returns-in-Divide
returns-in-Divide c = IfOk-weaker c.applied-in-Divide.result _ _ (λ f h d e first second. subst (λ (m : Mark). Means f (joined m d e)) (sym c.in-Divide.is) (h d e first second)) c.applied-in-Divide.ensures

pub returns-in-Remain : goal.returns-in-Remain
returns-in-Remain c = IfOk-weaker c.applied-in-Remain.result _ _ (λ f h d e first second. subst (λ (m : Mark). Means f (joined m d e)) (sym c.in-Remain.is) (h d e first second)) c.applied-in-Remain.ensures

pub returns-in-Greater : goal.returns-in-Greater
returns-in-Greater c = IfOk-weaker c.applied-in-Greater.result _ _ (λ f h d e first second. subst (λ (m : Mark). Means f (joined m d e)) (sym c.in-Greater.is) (h e d second first)) c.applied-in-Greater.ensures

pub returns-in_ok-equality-in-NotEqual : goal.returns-in_ok-equality-in-NotEqual
returns-in_ok-equality-in-NotEqual c = IfOk-weaker c.negation.result _ _
    (λ f h d e first second. subst (λ (m : Mark). Means f (joined m d e)) (sym c.in-NotEqual.is) (h (Negation (Applied Subtract d e)) (c.in_ok-equality-in-NotEqual.ensures d e first second)))
    c.negation.ensures
