-- Found without an answer too; with it a wrong body is refused at once.
use Rattle.std.proofs.Common.{rules}
use Rattle.hox_stream.proofs.pouring.is_waited_for.Goals as goal

pub returns-then-is_input : goal.returns-then-is_input
returns-then-is_input g c = search rules

pub returns-else-is_input : goal.returns-else-is_input
returns-else-is_input g c = search rules
