-- One source more, for the channel at its place.
use Rattle.std.proofs.Common.{refl, sym, ◌∙◌}
use Rattle.hox_stream.specs.Serves.{new_inlet}
use Rattle.hox_stream.proofs.Paired.{empty, made_more, made_none, made_over, zip_more, zip_over}
use Rattle.hox_stream.proofs.serving.inlets_of.Goals as goal

pub loop-source-init : goal.loop-source-init
loop-source-init g c = record { made = made_none (λ p. new_inlet c.args.net.now p.0 p.1.layout (g.S.Source.remaining p.1.stream) (g.S.Source.has_failed p.1.stream)) c.args.channels.now c.new-inlets.result.items c.new-inlets.ensures.items; left = refl }

pub loop-source-preserved-in_default : goal.loop-source-preserved-in_default
loop-source-preserved-in_default g c =
    let before = c.loop-source.invariant in
    let none = empty c.loop-source.left.now c.in_default.ensures.cases in
    record {
      made = made_over _ c.args.channels.now c.loop-source.yielded c.in-Some.source c.loop-source.left.now c.loop-source.inlets.items before.left none before.made;
      left = none ∙ sym (zip_over c.args.channels.now c.loop-source.yielded c.in-Some.source (sym before.left ∙ none)).1;
    }

pub loop-source-preserved : goal.loop-source-preserved
loop-source-preserved g c =
    let before = c.loop-source.invariant in
    let some = c.in-Some-split_first.ensures.cases.0 in
    record {
      made = made_more _ c.args.channels.now c.loop-source.yielded c.in-Some.source c.in-Some-split_first.channel.now c.loop-source.left.now c.in-Some-split_first.later.now c.loop-source.inlets.items c.push.new.self.items c.inlet_for.result before.left some before.made c.in_ok-push.ensures.items c.inlet_for.ensures;
      left = sym (zip_more c.args.channels.now c.loop-source.yielded c.in-Some.source c.in-Some-split_first.channel.now c.in-Some-split_first.later.now (sym before.left ∙ some)).1;
    }
