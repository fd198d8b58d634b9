-- The verdict is that on the places.
use Rattle.std.proofs.Common.{rules}
use Rattle.hox_run.proofs.judging.judge.Goals as goal

pub returns-clause-verdict : goal.returns-clause-verdict
returns-clause-verdict g c = search rules
