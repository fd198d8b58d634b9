-- Found without an answer too; with it a wrong body is refused at once.
use Rattle.std.proofs.Common.{rules}
use Rattle.kpn_net.proofs.faults.has_fault.Goals as goal

pub returns-in-Step : goal.returns-in-Step
returns-in-Step g c = search rules
