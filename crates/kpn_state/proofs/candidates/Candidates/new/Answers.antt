-- Found without an answer too; with it a wrong body is refused at once.
use Rattle.std.proofs.Common.{rules}
use Rattle.kpn_state.proofs.candidates.Candidates.new.Goals as goal

pub returns : goal.returns
returns c = search rules
