-- Found without an answer too, after a longer search.
use Rattle.std.proofs.Common.{arith}
use Rattle.std.proofs.lemmas.Grind.{common_steps}
use Rattle.hox_run.proofs.files.stream_files.Goals as goal

pub loop-channel-preserved : goal.loop-channel-preserved
loop-channel-preserved g c = grind (arith, common_steps)

pub returns : goal.returns
returns g c = grind (arith, common_steps)
