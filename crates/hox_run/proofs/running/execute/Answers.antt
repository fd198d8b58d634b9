-- One worker loses no run.
use Rattle.std.proofs.Common.{rules}
use Rattle.hox_run.proofs.running.execute.Goals as goal

pub returns-clause-lost : goal.returns-clause-lost
returns-clause-lost g c = search rules
