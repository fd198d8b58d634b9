-- Found without an answer too, after a longer search.
use Rattle.std.proofs.lemmas.Grind.{common_steps}
use Rattle.std.proofs.Common.{arith}
use Rattle.kpn_monitor.proofs.places.Places.leave.Goals as goal

pub invariant_of-self : goal.invariant_of-self
invariant_of-self g c = grind (arith, common_steps)

pub unreachable-requires : goal.unreachable-requires
unreachable-requires g c = grind (arith, common_steps)

pub returns-clause-first : goal.returns-clause-first
returns-clause-first g c = grind (arith, common_steps)

pub answered-requires-after_bounds : goal.answered-requires-after_bounds
answered-requires-after_bounds g c = grind (arith, common_steps)

pub returns-clause-again : goal.returns-clause-again
returns-clause-again g c = grind (arith, common_steps)

pub returns-clause-called : goal.returns-clause-called
returns-clause-called g c = grind (arith, common_steps)

pub index_mut-requires : goal.index_mut-requires
index_mut-requires g c = grind (arith, common_steps)

pub index-answer-requires : goal.index-answer-requires
index-answer-requires g c = grind (arith, common_steps)
