-- Found without an answer too; with it a wrong body is refused at once.
use Rattle.std.proofs.Common.{rules}
use Rattle.hox_network.proofs.parts.parts_of.Goals as goal

pub returns : goal.returns
returns g c = search rules
