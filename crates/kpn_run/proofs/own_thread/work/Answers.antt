-- Found without an answer too; with it a wrong body is refused at once.
use Rattle.std.proofs.Common.{rules}
use Rattle.kpn_run.proofs.own_thread.work.Goals as goal

pub returns-clause-over : goal.returns-clause-over
returns-clause-over g c = search rules
