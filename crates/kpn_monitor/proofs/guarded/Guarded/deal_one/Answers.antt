-- Found without an answer too; with it a wrong body is refused at once.
use Rattle.std.proofs.lemmas.Grind.{common_steps}
use Rattle.std.proofs.Common.{rules, arith}
use Rattle.kpn_monitor.proofs.guarded.Guarded.deal_one.Goals as goal

pub returns-clause-more : goal.returns-clause-more
returns-clause-more g c = search rules

pub invariant_of-self : goal.invariant_of-self
invariant_of-self g c = grind (arith, common_steps)

pub returns-clause-none : goal.returns-clause-none
returns-clause-none g c = grind (arith, common_steps)
