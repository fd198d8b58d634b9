-- The tables are behind the sinks.
use Rattle.std.proofs.Common.{arith}
use Rattle.std.proofs.lemmas.Grind.{common_steps}
use Rattle.hox_stream.proofs.telling.Outs.end.Goals as goal

pub returns : goal.returns
returns g c = record { sinks = grind (arith, common_steps); ends = grind (arith, common_steps); finish = grind (arith, common_steps) }
