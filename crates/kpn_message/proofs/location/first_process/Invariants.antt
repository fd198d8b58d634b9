use Rattle.kpn_message.specs.Location.{process_has_fault, HoldsNowhere}
use Rattle.kpn_message.proofs.location.first_process.Given as goal

abbrev pub invariant-loop-p : goal.invariant-loop-p
invariant-loop-p g l = HoldsNowhere (process_has_fault g.K.Kinds.named g.K.Kinds.signature l.sketch l.fault) l.p
