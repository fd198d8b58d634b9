-- Found without an answer too; with it a wrong body is refused at once.
use Rattle.std.proofs.Common.{rules}
use Rattle.kpn_state.proofs.roster.enqueue.Goals as goal

pub unreachable-requires : goal.unreachable-requires
unreachable-requires c = search rules

pub returns-else-is_err-clause-items : goal.returns-else-is_err-clause-items
returns-else-is_err-clause-items c = search rules
