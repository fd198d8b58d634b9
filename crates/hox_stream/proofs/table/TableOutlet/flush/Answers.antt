-- Found without an answer too, after a longer search.
use Rattle.std.proofs.Common.{arith}
use Rattle.std.proofs.lemmas.Grind.{common_steps}
use Rattle.hox_stream.proofs.table.TableOutlet.flush.Goals as goal

pub returns-clause-flushes : goal.returns-clause-flushes
returns-clause-flushes g c = grind (arith, common_steps)

pub returns-then-is_err-clause-flushes : goal.returns-then-is_err-clause-flushes
returns-then-is_err-clause-flushes g c = grind (arith, common_steps)

pub returns-then-is_err-clause-failed : goal.returns-then-is_err-clause-failed
returns-then-is_err-clause-failed g c = grind (arith, common_steps)
