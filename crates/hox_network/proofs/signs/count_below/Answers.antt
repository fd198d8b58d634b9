-- Found without an answer too; with it a wrong body is refused at once.
use Rattle.std.proofs.Common.{rules}
use Rattle.hox_network.proofs.signs.count_below.Goals as goal

pub returns-then-is_below : goal.returns-then-is_below
returns-then-is_below c = search rules

pub returns-else-is_below : goal.returns-else-is_below
returns-else-is_below c = search rules
