-- What is left to be written is written at the end.
use Rattle.kpn_model.specs.Network.{family_of}
use Rattle.hox_stream.proofs.Streamed.{finish_stays, streams_both}
use Rattle.hox_stream.proofs.streaming.stream.Goals as goal

pub returns-in-Ok-clause-ended : goal.returns-in-Ok-clause-ended
returns-in-Ok-clause-ended g c = record {
  streams = streams_both (family_of g.B.Kinds.Kinds.start g.B.Kinds.Kinds.answer_of) _ _ _ _ _ _ _ _ _ c.turn_on-finish.ensures.streams (c.flush_all.ensures.streams (family_of g.B.Kinds.Kinds.start g.B.Kinds.Kinds.answer_of) c.turn_on-finish.new.flow c.turn_on-finish.new.inlets);
  finish = finish_stays (family_of g.B.Kinds.Kinds.start g.B.Kinds.Kinds.answer_of) c.turn_on-finish.new.flow c.turn_on-finish.new.inlets c.turn_on-finish.new.outs c.flush_all.new.self c.turn_on-finish.result c.flush_all.ensures.still c.turn_on-finish.ensures.finish;
}

pub returns-in-Err-clause-ended : goal.returns-in-Err-clause-ended
returns-in-Err-clause-ended g c = record {
  streams = streams_both (family_of g.B.Kinds.Kinds.start g.B.Kinds.Kinds.answer_of) _ _ _ _ _ _ _ _ _ c.turn_on-finish.ensures.streams (c.flush_all.ensures.streams (family_of g.B.Kinds.Kinds.start g.B.Kinds.Kinds.answer_of) c.turn_on-finish.new.flow c.turn_on-finish.new.inlets);
  finish = c.in-Err.ensures.finish (family_of g.B.Kinds.Kinds.start g.B.Kinds.Kinds.answer_of) c.turn_on-finish.new.flow c.turn_on-finish.new.inlets;
}
