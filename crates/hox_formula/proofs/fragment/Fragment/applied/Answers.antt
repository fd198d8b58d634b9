use Rattle.std.proofs.Common.{[]}
use Rattle.std.proofs.lemmas.Result.{IfOk-weaker}
use Rattle.kpn_formula.specs.Operations.{applied}
use Rattle.hox_formula.specs.declared.fragment.Fragment.{Fragment}
use Rattle.hox_formula.specs.Expressions.{Applied}
use Rattle.hox_formula.proofs.fragment.Fragment.applied.Goals as goal

pub returns-in-Some : goal.returns-in-Some
returns-in-Some c = IfOk-weaker c.known.result _ _ (λ f known d e first second. known (Applied c.args.operation d e) c.in-Some.is (c.facts_of_applied-facts.ensures d e first.knows second.knows)) c.known.ensures

pub returns : goal.returns
returns c d e first second = record {
  computes = c.in_ok-code.ensures d e first.computes second;
  knows = c.facts_of_applied-facts.ensures d e first.knows second.knows;
}
