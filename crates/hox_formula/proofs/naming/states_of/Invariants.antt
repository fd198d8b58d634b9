use Rattle.std.proofs.Common.{◌≡◌, drop}
use Rattle.hox_formula.specs.Formulas.{with_states, states_of}
use Rattle.hox_formula.proofs.naming.states_of.Given as goal

abbrev pub invariant-loop-target : goal.invariant-loop-target
invariant-loop-target l = with_states l.states.items (drop l.target-index l.targets) ≡ states_of l.targets
