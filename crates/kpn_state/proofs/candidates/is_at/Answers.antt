-- Found without an answer too; with it a wrong body is refused at once.
use Rattle.std.proofs.Common.{rules}
use Rattle.kpn_state.proofs.candidates.is_at.Goals as goal

pub returns-then-place-pairs : goal.returns-then-place-pairs
returns-then-place-pairs c = search rules
