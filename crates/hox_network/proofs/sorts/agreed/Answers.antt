-- Found without an answer too; with it a wrong body is refused at once.
use Rattle.std.proofs.Common.{rules}
use Rattle.hox_network.proofs.sorts.agreed.Goals as goal

pub returns-in-Some-Flags-Some-Flags : goal.returns-in-Some-Flags-Some-Flags
returns-in-Some-Flags-Some-Flags c = search rules
