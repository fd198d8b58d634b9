-- Found without an answer too, after a longer search.
use Rattle.std.proofs.lemmas.Grind.{common_steps}
use Rattle.std.proofs.Common.{arith}
use Rattle.kpn_machine.proofs.asking.question_to.Goals as goal

pub returns-clause-card : goal.returns-clause-card
returns-clause-card g c = grind (arith, common_steps)

pub unreachable-requires-in_default-bodies : goal.unreachable-requires-in_default-bodies
unreachable-requires-in_default-bodies g c = grind (arith, common_steps)
