-- One column more, for the channel at its place.
use Rattle.std.proofs.Common.{refl, sym, ◌∙◌}
use Rattle.hox_stream.specs.Lanes.{new_lane}
use Rattle.hox_stream.proofs.Paired.{empty, made_more, made_none, made_over, zip_more, zip_over}
use Rattle.hox_stream.proofs.placing.lanes_of.Goals as goal

pub loop-decimals-init : goal.loop-decimals-init
loop-decimals-init c = record { made = made_none (λ p. new_lane c.args.table p.0 p.1) c.args.channels.now c.new-lanes.result.items c.new-lanes.ensures.items; rest = refl }

pub loop-decimals-preserved-in_default : goal.loop-decimals-preserved-in_default
loop-decimals-preserved-in_default c =
    let before = c.loop-decimals.invariant in
    let none = empty c.loop-decimals.rest.now c.in_default.ensures.cases in
    record {
      made = made_over _ c.args.channels.now c.loop-decimals.yielded c.in-Some.decimals c.loop-decimals.rest.now c.loop-decimals.lanes.items before.rest none before.made;
      rest = none ∙ sym (zip_over c.args.channels.now c.loop-decimals.yielded c.in-Some.decimals (sym before.rest ∙ none)).1;
    }

pub loop-decimals-preserved : goal.loop-decimals-preserved
loop-decimals-preserved c =
    let before = c.loop-decimals.invariant in
    let some = c.in-Some-split_first.ensures.cases.0 in
    record {
      made = made_more _ c.args.channels.now c.loop-decimals.yielded c.in-Some.decimals c.in-Some-split_first.channel.now c.loop-decimals.rest.now c.in-Some-split_first.others.now c.loop-decimals.lanes.items c.push.new.self.items c.new-lane.result before.rest some before.made c.in_ok-push.ensures.items c.new-lane.ensures;
      rest = sym (zip_more c.args.channels.now c.loop-decimals.yielded c.in-Some.decimals c.in-Some-split_first.channel.now c.in-Some-split_first.others.now (sym before.rest ∙ some)).1;
    }
