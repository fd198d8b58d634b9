-- Turn after turn.
use Rattle.std.proofs.Common.{refl}
use Rattle.kpn_model.specs.Network.{family_of}
use Rattle.hox_stream.proofs.Streamed.{streams_both, streams_none}
use Rattle.hox_stream.proofs.streaming.turn_on.Goals as goal

pub turns-init : goal.turns-init
turns-init g c = streams_none (family_of g.B.Kinds.Kinds.start g.B.Kinds.Kinds.answer_of) _ _ _ _ refl

pub turns-preserved : goal.turns-preserved
turns-preserved g c = streams_both (family_of g.B.Kinds.Kinds.start g.B.Kinds.Kinds.answer_of) _ _ _ _ _ _ _ _ _ c.turns.invariant c.turn.ensures.goes_on.streams

pub returns-in-Some : goal.returns-in-Some
returns-in-Some g c = record { streams = streams_both (family_of g.B.Kinds.Kinds.start g.B.Kinds.Kinds.answer_of) _ _ _ _ _ _ _ _ _ c.turns.invariant c.turn.ensures.goes_on.streams; finish = c.in-Some.ensures.goes_on.finish }
