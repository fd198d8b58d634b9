-- Found without an answer too, after a longer search.
use Rattle.std.proofs.Common.{arith}
use Rattle.std.proofs.lemmas.Grind.{common_steps}
use Rattle.hox_stream.proofs.serving.ports_of.Goals as goal

pub returns-clause-outs : goal.returns-clause-outs
returns-clause-outs g c = grind (arith, common_steps)
