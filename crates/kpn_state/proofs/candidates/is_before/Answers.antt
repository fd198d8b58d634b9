-- Found without an answer too; with it a wrong body is refused at once.
use Rattle.std.proofs.Common.{rules}
use Rattle.kpn_state.proofs.candidates.is_before.Goals as goal

pub returns-then-pair-other-2 : goal.returns-then-pair-other-2
returns-then-pair-other-2 c = search rules

pub returns-then-pair-other : goal.returns-then-pair-other
returns-then-pair-other c = search rules

pub returns-else-pair-other-2 : goal.returns-else-pair-other-2
returns-else-pair-other-2 c = search rules
