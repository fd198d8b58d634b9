use Rattle.kpn_message.specs.declared.location.Location.TheVariants.{Channel}
use Rattle.kpn_message.specs.EveryFault.{Adds, for_each_below, told_at}
use Rattle.kpn_message.proofs.every_fault.push_channels.Given as goal

abbrev pub invariant-loop-c : goal.invariant-loop-c
invariant-loop-c g l = Adds (for_each_below (λ c. told_at g.K.Kinds.named g.K.Kinds.signature l.sketch l.fault (Channel c)) l.c) l.fn.messages l.messages
