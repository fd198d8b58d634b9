-- Found without an answer too, after a longer search.
use Rattle.std.proofs.lemmas.Grind.{common_steps}
use Rattle.std.proofs.Common.{arith}
use Rattle.kpn_report.proofs.tally.count_put.Goals as goal

pub overflow_add-counts : goal.overflow_add-counts
overflow_add-counts c = grind (arith, common_steps)

pub returns-else-channel-len : goal.returns-else-channel-len
returns-else-channel-len c = grind (arith, common_steps)
