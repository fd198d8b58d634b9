-- Found without an answer too; with it a wrong body is refused at once.
use Rattle.std.proofs.Common.{rules}
use Rattle.hox_execute.proofs.running.wanted_of.Goals as goal

pub returns : goal.returns
returns c = search rules
