-- Found without an answer too; with it a wrong body is refused at once.
use Rattle.std.proofs.Common.{rules}
use Rattle.kpn_message.proofs.location.first_process.Goals as goal

pub returns-then-process_has_fault-clause-first : goal.returns-then-process_has_fault-clause-first
returns-then-process_has_fault-clause-first g c = search rules
