-- What is appended is the line of the verdict.
use Rattle.std.proofs.Common.{rules}
use Rattle.hox_run.proofs.judging.push_line.Goals as goal

pub returns : goal.returns
returns g c = search rules
