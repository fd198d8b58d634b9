-- Found without an answer too; with it a wrong body is refused at once.
use Rattle.std.proofs.Common.{arith}
use Rattle.std.proofs.lemmas.Grind.{common_steps}
use Rattle.hox_files.proofs.reading.shown_by.Goals as goal

pub returns : goal.returns
returns c = grind (arith, common_steps)
