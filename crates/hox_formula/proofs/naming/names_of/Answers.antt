-- The states are those of the targets, and so many ports are named.
use Rattle.std.proofs.Common.{◌≡◌, ◌∙◌, sym, ℕ, Bool, zero, suc, nat_lt, arith}
use Rattle.hox_formula.specs.Formulas.{AreFirst}
use Rattle.hox_formula.proofs.naming.names_of.Goals as goal

three : (n : ℕ) (there : ℕ → Bool) → there 0 ≡ nat_lt 0 n → there 1 ≡ nat_lt 1 n → there 2 ≡ nat_lt 2 n → AreFirst n there
three n there first second third zero less = first
three n there first second third (suc zero) less = second
three n there first second third (suc (suc zero)) less = third
three n there first second third (suc (suc (suc k))) less = absurd (omega (arith, less))

pub returns : goal.returns
returns c = record {
  states = c.in_ok-states.ensures;
  outputs = three _ _ (sym c.has_output.ensures ∙ c.in-Some.ensures.first) (sym c.has_output-2.ensures ∙ c.in-Some.ensures.second) (sym c.has_output-3.ensures ∙ c.in-Some.ensures.third);
  inputs = three _ _ (sym c.has_input.ensures ∙ c.in-Some-count.ensures.first) (sym c.has_input-2.ensures ∙ c.in-Some-count.ensures.second) (sym c.has_input-3.ensures ∙ c.in-Some-count.ensures.third);
}
