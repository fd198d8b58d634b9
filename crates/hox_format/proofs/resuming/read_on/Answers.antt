-- Found without an answer too, after a longer search.
use Rattle.std.proofs.Common.{arith}
use Rattle.std.proofs.lemmas.Grind.{common_steps}
use Rattle.hox_format.proofs.resuming.read_on.Goals as goal

pub returns-in-Ok-extend_from_slice-clause-reads : goal.returns-in-Ok-extend_from_slice-clause-reads
returns-in-Ok-extend_from_slice-clause-reads g c = grind (arith, common_steps)
