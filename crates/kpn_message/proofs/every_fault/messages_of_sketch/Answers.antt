use Rattle.std.proofs.Common.{◌<◌, length, arith}
use Rattle.kpn_message.specs.EveryFault.{due_of, every_fault}
use Rattle.kpn_message.proofs.Told.{tells_next}
use Rattle.kpn_message.proofs.every_fault.messages_of_sketch.Goals as goal

pub loop-fault-preserved : goal.loop-fault-preserved
loop-fault-preserved g c =
    let within : c.loop-fault.fault-index < length every_fault = omega arith in
    tells_next (due_of g.K.Kinds.named g.K.Kinds.signature c.args.sketch.now) every_fault c.loop-fault.fault-index _ c.loop-fault.messages c.push_due.new.messages within c.loop-fault.invariant c.push_due.ensures
