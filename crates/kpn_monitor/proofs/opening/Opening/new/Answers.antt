use Rattle.std.proofs.Common.{refl}
use Rattle.kpn_monitor.proofs.opening.Opening.new.Goals as goal

pub invariant_of-result : goal.invariant_of-result
invariant_of-result g c = (c.requires, c.in-Ok.ensures, c.new-2.ensures, c.new-3.ensures)

pub returns : goal.returns
returns g c = (refl, c.new-2.ensures, c.new-3.ensures)

pub returns-in_default : goal.returns-in_default
returns-in_default g c = refl
