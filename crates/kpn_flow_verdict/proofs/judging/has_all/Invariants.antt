use Rattle.kpn_flow_verdict.proofs.Outputs.{AreCompleteUpto}
use Rattle.kpn_flow_verdict.proofs.judging.has_all.Given as goal

abbrev pub invariant-loop-c : goal.invariant-loop-c
invariant-loop-c g l = AreCompleteUpto l.flow l.c l.has_output
