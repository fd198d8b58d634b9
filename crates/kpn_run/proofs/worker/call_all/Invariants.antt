use Rattle.std.proofs.Common.{◌-◌, length}
use Rattle.kpn_run.proofs.worker.call_all.Given as goal

abbrev pub decreases-loop-process : goal.decreases-loop-process
decreases-loop-process g l = length l.hand.tasks - l.hand.called
