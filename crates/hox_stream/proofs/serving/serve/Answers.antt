-- What comes of a stream from its start.
use Rattle.std.proofs.Common.{◌≡◌, sym, ap, ◌∙◌}
use Rattle.kpn_model.specs.Network.{family_of}
use Rattle.hox_stream.specs.Serves.{new_inlets, new_outs}
use Rattle.hox_stream.proofs.Paired.{written_back}
use Rattle.hox_stream.proofs.Wholes.{serves}
use Rattle.hox_stream.proofs.serving.serve.Goals as goal

pub returns : goal.returns
returns g c =
    let kinds = family_of g.F.Kinds.start g.F.Kinds.answer_of in
    let s = c.opened.inside.flow in
    let after = c.stream_out-finish.new.inlets in
    let left = c.stream_out-finish.new.outs in
    let x = c.stream_out-finish.ensures in
    let ins : c.as_mut_slice.result.now ≡ new_inlets g.I.Source.remaining g.I.Source.has_failed s.network c.opened.inside.inputs.items c.args.ends.sources.items =
    c.as_mut_slice.ensures.value ∙ (rw (← c.opened.view_is) at c.in_ok-inlets.ensures.inlets) ∙ ap (λ l. new_inlets g.I.Source.remaining g.I.Source.has_failed s.network l c.args.ends.sources.items) (sym c.opened.invariant.inputs_are) in
    let outs = (rw (← c.opened.view_is) at c.in_ok-inlets.ensures.outs) ∙ ap (λ l. new_outs g.O.Sink.seen l c.args.ends.sinks.items c.args.ends.tables.items) (sym c.opened.invariant.outputs_are) in
    let many = sym c.as_mut_slice.ensures.len ∙ sym x.streams.as_many_inlets in
    rw (← c.opened.view_is, written_back _ after _ many)
    (rw (← c.outs.view_is) at
    (serves g.I.Source.remaining g.I.Source.has_failed g.O.Sink.seen c.args.ends.sources.items c.args.ends.sinks.items c.args.ends.tables.items kinds s c.stream_out-finish.new.flow c.opened.inside.inputs.items c.opened.inside.outputs.items after left c.stream_out-finish.result c.opened.invariant
    (rw (← ins, ← outs) x)))
