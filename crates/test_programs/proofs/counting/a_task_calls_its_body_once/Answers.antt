-- The start of a copy is admitted.
use Rattle.std.proofs.Common.{arith}
use Rattle.kpn_standard.specs.Copies.{copy_reads}
use Rattle.test_programs.proofs.counting.a_task_calls_its_body_once.Goals as goal

pub new-task-requires-after_bounds : goal.new-task-requires-after_bounds
new-task-requires-after_bounds c κs = rw c.in_ok-called_body.ensures (record { local_fits = omega arith; last_fits = tt; line = copy_reads })
