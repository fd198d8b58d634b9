use Rattle.std.proofs.Common.{arith}
use Rattle.std.proofs.lemmas.Grind.{common_steps}
use Rattle.hox_network.proofs.FanOut.{filter_numbers_more}
use Rattle.hox_network.specs.Copies.{free_names}
use Rattle.hox_network.proofs.copies.free_names.Goals as goal

pub loop-k-preserved : goal.loop-k-preserved
loop-k-preserved c = grind (arith, common_steps, filter_numbers_more)

pub returns : goal.returns
unfolding free_names
returns c = grind (arith, common_steps)
