use Rattle.kpn_formula.proofs.Tapes.{room_for}
use Rattle.kpn_formula.proofs.encoding.Tape.write_all.Goals as goal

pub write-requires-clause-room : goal.write-requires-clause-room
write-requires-clause-room c = room_for c.args.program.now c.loop-instruction.instruction-index _ _ c.loop-instruction-test.true c.loop-instruction.invariant c.requires.room
