-- Found without an answer too; with it a wrong body is refused at once.
use Rattle.std.proofs.Common.{rules, arith}
use Rattle.std.proofs.lemmas.Grind.{common_steps}
use Rattle.kpn_report.proofs.streams.push_put.Goals as goal

pub returns-in_ok-push : goal.returns-in_ok-push
returns-in_ok-push c = grind (arith, common_steps)

pub returns : goal.returns
returns c = search rules

pub returns-else-channel-len : goal.returns-else-channel-len
returns-else-channel-len c = grind (arith, common_steps)
