use Rattle.std.proofs.Common.{ℕ, [], ◌∷◌, ap}
use Rattle.kpn_formula.specs.Programs.{run}
use Rattle.hox_formula.specs.declared.fragment.Fragment.{Fragment}
use Rattle.hox_formula.specs.Expressions.{Negation, Either, value}
use Rattle.hox_formula.specs.Fragments.{working}
use Rattle.hox_formula.proofs.Codes.{after_two}
use Rattle.hox_formula.proofs.Truth.{either_is}
use Rattle.hox_formula.proofs.fragment.Fragment.either.Goals as goal

pub returns : goal.returns
returns c d e first second = record {
  computes = rw c.in_ok-code.ensures (after_two c.in_ok-first.first.items c.in_ok-second.second.items _ (Negation (Negation d)) (Negation (Negation e)) (Either d e)
      (c.in_ok-first.ensures d first) (c.in_ok-second.ensures e second)
      (λ rest vs stack. ap (λ (x : ℕ). run rest (working vs (x ∷ stack))) (either_is (value d vs) (value e vs))));
  knows = c.facts_of_conditions-facts.ensures.either d e first.knows second.knows;
}
