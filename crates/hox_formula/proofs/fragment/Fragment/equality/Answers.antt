use Rattle.std.proofs.lemmas.Result.{IfOk-weaker}
use Rattle.kpn_formula.specs.declared.instruction.Operation.TheVariants.{Subtract}
use Rattle.hox_formula.specs.Expressions.{Applied}
use Rattle.hox_formula.proofs.fragment.Fragment.equality.Goals as goal

pub returns : goal.returns
returns c = IfOk-weaker c.negation.result _ _ (λ f h d e first second. h (Applied Subtract d e) (c.in_ok-difference.ensures d e first second)) c.negation.ensures
