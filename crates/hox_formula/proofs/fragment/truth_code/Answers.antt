use Rattle.std.proofs.Common.{◌∙◌, ℕ, [], ◌∷◌, refl, sym, ap}
use Rattle.std.proofs.lemmas.Result.{IfOk-weaker}
use Rattle.kpn_formula.specs.declared.instruction.Instruction.TheVariants.{Not}
use Rattle.kpn_formula.specs.Programs.{run}
use Rattle.hox_formula.specs.Expressions.{Negation}
use Rattle.hox_formula.specs.Fragments.{working}
use Rattle.hox_formula.proofs.Codes.{after_one}
use Rattle.hox_formula.proofs.Truth.{flag_truth}
use Rattle.hox_formula.proofs.fragment.truth_code.Goals as goal

pub returns-then-operand : goal.returns-then-operand
returns-then-operand c e means = record {
  runs = λ rest vs stack.
      means.computes.runs rest vs stack
      ∙ ap (λ (x : ℕ). run rest (working vs (x ∷ stack))) (sym (flag_truth e vs (sym means.knows.is_flag ∙ c.if-operand.true)));
}

pub returns : goal.returns
returns c = IfOk-weaker c.followed.result _ _ (λ code is e means. rw is (after_one c.args.operand.code.items (Not ∷ Not ∷ []) e (Negation (Negation e)) means.computes (λ rest vs stack. refl))) c.followed.ensures
