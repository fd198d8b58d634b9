-- Found without an answer too, after a longer search.
use Rattle.std.proofs.Common.{arith}
use Rattle.std.proofs.lemmas.Grind.{common_steps}
use Rattle.hox_format.proofs.heads.append_head.Goals as goal

pub returns-in-Wav : goal.returns-in-Wav
returns-in-Wav c = grind (arith, common_steps)
