use Rattle.std.proofs.Common.{◌≡◌}
use Rattle.kpn_run.proofs.own_thread.work_with.Given as goal

abbrev pub invariant-loop : goal.invariant-loop
invariant-loop g l = l.seat.parts ≡ l.initial.seat.parts
