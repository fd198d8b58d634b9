-- The stream comes to its end, and then the rest of the tables is written.
use Rattle.std.proofs.Common.{List, inl, inr, subst, sym}
use Rattle.kpn_model.specs.Network.{family_of}
use Rattle.hox_stream.specs.Streams.{IsFinish}
use Rattle.hox_stream.specs.Views.{OutletView, outs}
use Rattle.hox_stream.proofs.Ended.{streams_ended}
use Rattle.hox_stream.proofs.streaming.stream_out.Goals as goal

pub returns-in-Ok : goal.returns-in-Ok
returns-in-Ok g c =
    let kinds = family_of g.B.Kinds.Kinds.start g.B.Kinds.Kinds.answer_of in
    let x = c.stream-finish.ensures in
    let mid = c.stream-finish.new.outs in
    streams_ended kinds _ c.stream-finish.new.flow _ c.stream-finish.new.inlets _ mid c.end.new.self c.stream-finish.result x.ended.streams x.written c.end.ensures.sinks c.end.ensures.ends x.one_run
    (inl (subst (λ (l : List OutletView). IsFinish kinds c.stream-finish.new.flow c.stream-finish.new.inlets (outs l mid.tables) c.stream-finish.result) (sym c.end.ensures.sinks) x.ended.finish))

pub returns-in-Err : goal.returns-in-Err
returns-in-Err g c =
    let kinds = family_of g.B.Kinds.Kinds.start g.B.Kinds.Kinds.answer_of in
    let x = c.stream-finish.ensures in
    streams_ended kinds _ c.stream-finish.new.flow _ c.stream-finish.new.inlets _ c.stream-finish.new.outs c.end.new.self c.in-Err.unwritten x.ended.streams x.written c.end.ensures.sinks c.end.ensures.ends x.one_run
    (inr (c.in-Err.ensures.finish kinds c.stream-finish.new.flow c.stream-finish.new.inlets))
