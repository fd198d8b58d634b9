-- Found without an answer too, after a longer search.
use Rattle.std.proofs.lemmas.Grind.{common_steps}
use Rattle.std.proofs.Common.{arith}
use Rattle.kpn_monitor.proofs.places.Places.close_up.Goals as goal

pub returns : goal.returns
returns g c = grind (arith, common_steps)

pub invariant_of-self : goal.invariant_of-self
invariant_of-self g c = grind (arith, common_steps)
