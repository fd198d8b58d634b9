-- Found without an answer too, after a longer search.
use Rattle.std.proofs.Common.{arith}
use Rattle.std.proofs.lemmas.Grind.{common_steps}
use Rattle.hox_stream.proofs.outlet.Outlet.flush.Goals as goal

pub returns : goal.returns
returns g c = record { writes = grind (arith, common_steps); written = grind (arith, common_steps); still = grind (arith, common_steps); failed = tt }

pub returns-then-is_err : goal.returns-then-is_err
returns-then-is_err g c = record { writes = grind (arith, common_steps); written = grind (arith, common_steps); still = grind (arith, common_steps); failed = grind (arith, common_steps) }
