use Rattle.kpn_model.specs.Network.{family_of}
use Rattle.hox_stream.specs.Streams.{Streams}
use Rattle.hox_stream.proofs.streaming.turn_on.Given as goal

abbrev pub invariant-turns : goal.invariant-turns
invariant-turns g l = Streams (family_of g.B.Kinds.Kinds.start g.B.Kinds.Kinds.answer_of) l.initial.flow l.flow l.initial.inlets l.inlets l.initial.outs l.outs
