-- Found without an answer too, after a longer search.
use Rattle.std.proofs.Common.{arith}
use Rattle.std.proofs.lemmas.Grind.{common_steps}
use Rattle.hox_stream.proofs.table.TableOutlet.write_row.Goals as goal

pub returns : goal.returns
returns g c = record { rows = grind (arith, common_steps); failed = tt; fault = tt }

pub returns-then-len-le-PIECE : goal.returns-then-len-le-PIECE
returns-then-len-le-PIECE g c = record { rows = grind (arith, common_steps); failed = tt; fault = tt }

pub returns-then-is_err-2 : goal.returns-then-is_err-2
returns-then-is_err-2 g c = record { rows = grind (arith, common_steps); failed = grind (arith, common_steps); fault = grind (arith, common_steps) }

pub returns-then-is_err : goal.returns-then-is_err
returns-then-is_err g c = record { rows = grind (arith, common_steps); failed = grind (arith, common_steps); fault = grind (arith, common_steps) }
