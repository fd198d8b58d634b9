-- Found without an answer too; with it a wrong body is refused at once.
use Rattle.std.proofs.Common.{rules}
use Rattle.hox_network.proofs.signs.signed_process.Goals as goal

pub returns-then-has_wrong_args : goal.returns-then-has_wrong_args
returns-then-has_wrong_args g c = search rules
