-- Found without an answer too; with it a wrong body is refused at once.
use Rattle.std.proofs.Common.{arith}
use Rattle.std.proofs.lemmas.Grind.{common_steps}
use Rattle.hox_stream.proofs.inlet.Inlet.next.Goals as goal

pub returns : goal.returns
returns g c = record { next = grind (arith, common_steps); at_end = grind (arith, common_steps) }
