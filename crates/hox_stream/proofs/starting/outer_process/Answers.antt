-- Found without an answer too; with it a wrong body is refused at once.
use Rattle.std.proofs.Common.{rules}
use Rattle.hox_stream.proofs.starting.outer_process.Goals as goal

pub returns-in-Out-clause-is : goal.returns-in-Out-clause-is
returns-in-Out-clause-is g c = search rules
