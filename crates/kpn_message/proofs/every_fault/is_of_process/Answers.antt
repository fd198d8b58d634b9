-- Found without an answer too; with it a wrong body is refused at once.
use Rattle.std.proofs.Common.{rules}
use Rattle.kpn_message.proofs.every_fault.is_of_process.Goals as goal

pub returns-then-process_has_fault : goal.returns-then-process_has_fault
returns-then-process_has_fault g c = search rules
