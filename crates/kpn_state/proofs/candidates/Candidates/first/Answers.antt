-- Found without an answer too; with it a wrong body is refused at once.
use Rattle.std.proofs.Common.{rules}
use Rattle.kpn_state.proofs.candidates.Candidates.first.Goals as goal

pub returns-clause-first : goal.returns-clause-first
returns-clause-first c = search rules
