use Rattle.std.proofs.Common.{[]}
use Rattle.hox_formula.specs.declared.fragment.Fragment.{Fragment}
use Rattle.hox_formula.specs.Expressions.{value}
use Rattle.hox_formula.proofs.Codes.{chosen_code}
use Rattle.hox_formula.proofs.fragment.Fragment.choice.Goals as goal

pub returns : goal.returns
returns c condition d e chooses first second = record {
  computes = rw (c.in_ok-code.ensures, c.in_ok-both.ensures, c.deref.ensures.value) (chosen_code _ _ _ condition d e chooses.computes first.computes second.computes);
  knows = c.facts_of_choice-facts.ensures condition d e chooses.knows first.knows second.knows;
}
