use Rattle.kpn_model.specs.Network.{family_of}
use Rattle.hox_stream.specs.Ports.{PoursKept}
use Rattle.hox_stream.proofs.pouring.take_more.Given as goal

abbrev pub invariant-records : goal.invariant-records
invariant-records g l = PoursKept (family_of g.B.Kinds.Kinds.start g.B.Kinds.Kinds.answer_of) l.initial.flow l.flow l.initial.inlet l.inlet
