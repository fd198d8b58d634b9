-- Found without an answer too, after a longer search.
use Rattle.std.proofs.Common.{arith}
use Rattle.std.proofs.lemmas.Grind.{common_steps}
use Rattle.hox_stream.proofs.cutting.told_by_frame.Goals as goal

pub returns : goal.returns
returns c = grind (arith, common_steps)
