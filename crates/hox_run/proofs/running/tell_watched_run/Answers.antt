-- Found without an answer too; with it a wrong body is refused at once.
use Rattle.std.proofs.Common.{rules}
use Rattle.hox_run.proofs.running.tell_watched_run.Goals as goal

pub tell_run-requires-clause-ended : goal.tell_run-requires-clause-ended
tell_run-requires-clause-ended g c = search rules
