-- Found without an answer too; with it a wrong body is refused at once.
use Rattle.std.proofs.Common.{arith}
use Rattle.std.proofs.lemmas.Grind.{common_steps}
use Rattle.kpn_report.proofs.tally.note_capacity.Goals as goal

pub returns-then-channel-len : goal.returns-then-channel-len
returns-then-channel-len c = grind (arith, common_steps)

pub returns-else-channel-len : goal.returns-else-channel-len
returns-else-channel-len c = grind (arith, common_steps)
