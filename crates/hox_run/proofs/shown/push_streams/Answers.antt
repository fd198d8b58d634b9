-- When each channel has its line, all have theirs.
use Rattle.std.proofs.Common.{arith}
use Rattle.std.proofs.lemmas.Grind.{common_steps}
use Rattle.hox_run.proofs.shown.push_streams.Goals as goal

pub returns : goal.returns
returns g c = grind (arith, common_steps)
