use Rattle.std.proofs.Common.{take, flat_map}
use Rattle.kpn_message.specs.EveryFault.{Tells, due_of, every_fault}
use Rattle.kpn_message.proofs.every_fault.messages_of_sketch.Given as goal

abbrev pub invariant-loop-fault : goal.invariant-loop-fault
invariant-loop-fault g l = Tells (flat_map (due_of g.K.Kinds.named g.K.Kinds.signature l.sketch) (take l.fault-index every_fault)) l.messages
