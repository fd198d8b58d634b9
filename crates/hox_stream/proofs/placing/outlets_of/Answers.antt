-- One sink more, for the channel at its place.
use Rattle.std.proofs.Common.{refl, sym, ◌∙◌}
use Rattle.hox_stream.specs.Serves.{new_outlet}
use Rattle.hox_stream.proofs.Paired.{empty, made_more, made_none, made_over, zip_more, zip_over}
use Rattle.hox_stream.proofs.placing.outlets_of.Goals as goal

pub loop-sink-init : goal.loop-sink-init
loop-sink-init g c = record { made = made_none (λ p. new_outlet p.0 p.1.layout (g.S.Sink.seen p.1.stream).contents) c.args.channels.now c.new-outlets.result.items c.new-outlets.ensures.items; rest = refl }

pub loop-sink-preserved-in_default : goal.loop-sink-preserved-in_default
loop-sink-preserved-in_default g c =
    let before = c.loop-sink.invariant in
    let none = empty c.loop-sink.rest.now c.in_default.ensures.cases in
    record {
      made = made_over _ c.args.channels.now c.loop-sink.yielded c.in-Some.sink c.loop-sink.rest.now c.loop-sink.outlets.items before.rest none before.made;
      rest = none ∙ sym (zip_over c.args.channels.now c.loop-sink.yielded c.in-Some.sink (sym before.rest ∙ none)).1;
    }

pub loop-sink-preserved : goal.loop-sink-preserved
loop-sink-preserved g c =
    let before = c.loop-sink.invariant in
    let some = c.in-Some-split_first.ensures.cases.0 in
    record {
      made = made_more _ c.args.channels.now c.loop-sink.yielded c.in-Some.sink c.in-Some-split_first.channel.now c.loop-sink.rest.now c.in-Some-split_first.later.now c.loop-sink.outlets.items c.push.new.self.items c.in_ok-outlet.outlet before.rest some before.made c.in_ok-push.ensures.items c.in_ok-outlet.ensures;
      rest = sym (zip_more c.args.channels.now c.loop-sink.yielded c.in-Some.sink c.in-Some-split_first.channel.now c.in-Some-split_first.later.now (sym before.rest ∙ some)).1;
    }
