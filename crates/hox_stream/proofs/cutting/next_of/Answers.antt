-- A record that says a token.
use Rattle.std.proofs.Common.{arith}
use Rattle.std.proofs.lemmas.Grind.{common_steps}
use Rattle.hox_stream.proofs.cutting.next_of.Goals as goal

pub returns-in-Some : goal.returns-in-Some
returns-in-Some c = c.in-Some.ensures.next c.args.is_last

pub returns-in-Ok-Ok : goal.returns-in-Ok-Ok
returns-in-Ok-Ok c = grind (arith, common_steps)

pub returns-in-Ok-Err : goal.returns-in-Ok-Err
returns-in-Ok-Err c = grind (arith, common_steps)
