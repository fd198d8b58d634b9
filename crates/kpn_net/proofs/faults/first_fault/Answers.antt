-- Found without an answer too; with it a wrong body is refused at once.
use Rattle.std.proofs.Common.{rules}
use Rattle.kpn_net.proofs.faults.first_fault.Goals as goal

pub returns-then-has_wrong_capacities : goal.returns-then-has_wrong_capacities
returns-then-has_wrong_capacities g c = search rules

pub returns-else-has_wrong_step : goal.returns-else-has_wrong_step
returns-else-has_wrong_step g c = search rules
