-- Found without an answer too; with it a wrong body is refused at once.
use Rattle.std.proofs.Common.{rules, arith}
use Rattle.std.proofs.lemmas.Grind.{common_steps}
use Rattle.hox_network.proofs.preparing.prepare_parts.Goals as goal

pub returns-clause-ok : goal.returns-clause-ok
returns-clause-ok g c = search rules

pub returns-then-not-set_budget-clause-fault : goal.returns-then-not-set_budget-clause-fault
returns-then-not-set_budget-clause-fault g c = grind (arith, common_steps)
