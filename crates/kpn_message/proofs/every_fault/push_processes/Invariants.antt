use Rattle.kpn_message.specs.declared.location.Location.TheVariants.{Process}
use Rattle.kpn_message.specs.EveryFault.{Adds, for_each_below, told_at}
use Rattle.kpn_message.proofs.every_fault.push_processes.Given as goal

abbrev pub invariant-loop-p : goal.invariant-loop-p
invariant-loop-p g l = Adds (for_each_below (λ p. told_at g.K.Kinds.named g.K.Kinds.signature l.sketch l.fault (Process p)) l.p) l.fn.messages l.messages
