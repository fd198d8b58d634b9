-- Found without an answer too; with it a wrong body is refused at once.
use Rattle.std.proofs.Common.{rules}
use Rattle.kpn_commit.proofs.act.read_or_write.Goals as goal

pub put-requires : goal.put-requires
put-requires g c = search rules

pub returns-else-tokens-capacity-clause-does : goal.returns-else-tokens-capacity-clause-does
returns-else-tokens-capacity-clause-does g c = search rules
