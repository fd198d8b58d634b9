-- The flow goes on, the sinks are written, and then a source may be poured.
use Rattle.std.proofs.Common.{inl, inr, sym, ◌∙◌, subst, arith}
use Rattle.std.proofs.lemmas.Grind.{common_steps}
use Rattle.kpn_model.specs.Network.{family_of}
use Rattle.hox_stream.specs.Streams.{AreWritten, Streams}
use Rattle.hox_stream.specs.Views.{OutsView}
use Rattle.hox_stream.proofs.Reading.{not_read_same, unheld}
use Rattle.hox_stream.proofs.Streamed.{some_each, streams_both, streams_went}
use Rattle.hox_stream.proofs.streaming.turn.Goals as goal
use Rattle.hox_stream.proofs.streaming.turn.Goals.{then-wants_more+in_default, else-wants_more}

pub returns-in-Err-clause-goes_on : goal.returns-in-Err-clause-goes_on
returns-in-Err-clause-goes_on g c = record {
  streams = streams_both (family_of g.B.Kinds.Kinds.start g.B.Kinds.Kinds.answer_of) _ _ _ _ _ _ _ _ _ (streams_went (family_of g.B.Kinds.Kinds.start g.B.Kinds.Kinds.answer_of) _ _ c.args.inlets.now c.args.outs.now _ _ _ _ _ _ c.advance-pause.ensures.same c.advance-pause.ensures.advances) (c.tell_all.ensures.streams c.args.inlets.now);
  finish = c.in-Err.ensures.finish c.args.inlets.now;
  unheld = inr (λ k within. not_read_same _);
}

pub returns-in-Ok-true-clause-goes_on : goal.returns-in-Ok-true-clause-goes_on
returns-in-Ok-true-clause-goes_on g c = record {
  streams = streams_both (family_of g.B.Kinds.Kinds.start g.B.Kinds.Kinds.answer_of) _ _ _ _ _ _ _ _ _ (streams_went (family_of g.B.Kinds.Kinds.start g.B.Kinds.Kinds.answer_of) _ _ c.args.inlets.now c.args.outs.now _ _ _ _ _ _ c.advance-pause.ensures.same c.advance-pause.ensures.advances) (c.tell_all.ensures.streams c.args.inlets.now);
  finish = tt;
  unheld = inr (λ k within. not_read_same _);
}

pub returns-in-Cut-clause-goes_on : goal.returns-in-Cut-clause-goes_on
returns-in-Cut-clause-goes_on g c = record {
  streams = streams_both (family_of g.B.Kinds.Kinds.start g.B.Kinds.Kinds.answer_of) _ _ _ _ _ _ _ _ _ (streams_went (family_of g.B.Kinds.Kinds.start g.B.Kinds.Kinds.answer_of) _ _ c.args.inlets.now c.args.outs.now _ _ _ _ _ _ c.advance-pause.ensures.same c.advance-pause.ensures.advances) (c.tell_all.ensures.streams c.args.inlets.now);
  finish = tt;
  unheld = inr (λ k within. not_read_same _);
}

pub returns-in-Over-clause-goes_on : goal.returns-in-Over-clause-goes_on
returns-in-Over-clause-goes_on g c = record {
  streams = streams_both (family_of g.B.Kinds.Kinds.start g.B.Kinds.Kinds.answer_of) _ _ _ _ _ _ _ _ _ (streams_went (family_of g.B.Kinds.Kinds.start g.B.Kinds.Kinds.answer_of) _ _ c.args.inlets.now c.args.outs.now _ _ _ _ _ _ c.advance-pause.ensures.same c.advance-pause.ensures.advances) (c.tell_all.ensures.streams c.args.inlets.now);
  finish = grind (arith, common_steps);
  unheld = inr (λ k within. not_read_same _);
}

pub returns-in-Err-flush_all-clause-goes_on : goal.returns-in-Err-flush_all-clause-goes_on
returns-in-Err-flush_all-clause-goes_on g c =
    let kinds = family_of g.B.Kinds.Kinds.start g.B.Kinds.Kinds.answer_of in
    record {
      streams = streams_both kinds _ _ _ _ _ _ _ _ _ (streams_both (family_of g.B.Kinds.Kinds.start g.B.Kinds.Kinds.answer_of) _ _ _ _ _ _ _ _ _ (streams_went (family_of g.B.Kinds.Kinds.start g.B.Kinds.Kinds.answer_of) _ _ c.args.inlets.now c.args.outs.now _ _ _ _ _ _ c.advance-pause.ensures.same c.advance-pause.ensures.advances) (c.tell_all.ensures.streams c.args.inlets.now)) (c.flush_all.ensures.streams kinds c.tell_all.new.flow c.args.inlets.now);
      finish = c.in-Err-flush_all.ensures.finish kinds c.tell_all.new.flow c.args.inlets.now;
      unheld = inl c.flush_all.ensures.written;
    }

pub returns-clause-goes_on : goal.returns-clause-goes_on
returns-clause-goes_on g c =
    let kinds = family_of g.B.Kinds.Kinds.start g.B.Kinds.Kinds.answer_of in
    let told = streams_both (family_of g.B.Kinds.Kinds.start g.B.Kinds.Kinds.answer_of) _ _ _ _ _ _ _ _ _ (streams_went (family_of g.B.Kinds.Kinds.start g.B.Kinds.Kinds.answer_of) _ _ c.args.inlets.now c.args.outs.now _ _ _ _ _ _ c.advance-pause.ensures.same c.advance-pause.ensures.advances) (c.tell_all.ensures.streams c.args.inlets.now) in
    record {
      streams =
          let Left : OutsView → Type 0 = λ outs. Streams kinds c.args.flow.now c.pour_next.new.flow c.args.inlets.now c.pour_next.new.inlets c.args.outs.now outs in
          elim c.if-wants_more.branch [
            | then-wants_more+in_default w ↦
                subst Left (sym w.outs-is) (streams_both kinds _ _ _ _ _ _ _ _ _ (streams_both kinds _ _ _ _ _ _ _ _ _ told (w.flush_all.ensures.streams kinds c.tell_all.new.flow c.args.inlets.now)) (c.pour_next.ensures.poured.streams w.flush_all.new.self))
            | else-wants_more w ↦ subst Left (sym w.outs-is) (streams_both kinds _ _ _ _ _ _ _ _ _ told (c.pour_next.ensures.poured.streams c.tell_all.new.self))
          ];
      finish = some_each _ c.pour_next.result c.pour_next.ensures.poured.finish c.if-wants_more.outs;
      unheld =
          elim c.if-wants_more.branch [
            | then-wants_more+in_default w ↦ inl (subst AreWritten (sym w.outs-is) w.flush_all.ensures.written)
            | else-wants_more w ↦ unheld c.args.inlets.now c.pour_next.new.inlets c.if-wants_more.outs c.pour_next.ensures.poured.only_if_wanted (sym c.wants_more.ensures ∙ w.if-wants_more.false)
          ];
    }
