-- Found without an answer too; with it a wrong body is refused at once.
use Rattle.std.proofs.Common.{rules}
use Rattle.hox_run.proofs.cut.left_at.Goals as goal

pub returns-in_default : goal.returns-in_default
returns-in_default c = search rules
