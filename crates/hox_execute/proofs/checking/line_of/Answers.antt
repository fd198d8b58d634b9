-- Found without an answer too; with it a wrong body is refused at once.
use Rattle.std.proofs.Common.{rules}
use Rattle.hox_execute.proofs.checking.line_of.Goals as goal

pub returns-then-say_checked-code : goal.returns-then-say_checked-code
returns-then-say_checked-code g c = search rules
