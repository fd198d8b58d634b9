-- Found without an answer too; with it a wrong body is refused at once.
use Rattle.std.proofs.Common.{rules}
use Rattle.kpn_state.proofs.waiting.Waiting.new.Goals as goal

pub returns-clause-candidates : goal.returns-clause-candidates
returns-clause-candidates c = search rules
