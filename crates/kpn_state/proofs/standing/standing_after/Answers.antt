-- Found without an answer too; with it a wrong body is refused at once.
use Rattle.std.proofs.Common.{rules}
use Rattle.kpn_state.proofs.standing.standing_after.Goals as goal

pub returns-in-Took : goal.returns-in-Took
returns-in-Took c = search rules
