-- Found without an answer too; with it a wrong body is refused at once.
use Rattle.std.proofs.Common.{rules}
use Rattle.kpn_run.proofs.worker.ask_in_place.Goals as goal

pub returns-then-in_place-eq0-clause-over : goal.returns-then-in_place-eq0-clause-over
returns-then-in_place-eq0-clause-over g c = search rules
