-- A step of the search: the half in which the place isn't is left out.
use Rattle.std.proofs.Common.{◌+◌, ◌-◌, ◌/◌, ◌<◌, length, arith}
use Rattle.kpn_state.proofs.Contradictions.{true_false}
use Rattle.kpn_state.proofs.Ordered.{low_more, high_less, at_default}
use Rattle.kpn_state.proofs.candidates.place_of.Goals as goal

pub loop-low-preserved-then-is_before : goal.loop-low-preserved-then-is_before
loop-low-preserved-then-is_before c =
    let i = c.loop-low.invariant in
    let m = c.loop-low.low + (c.loop-low.high - c.loop-low.low) / 2 in
    let below : m < c.loop-low.high = omega (arith, c.loop-low-test.true) in
    let within : m < length c.args.pairs.now = omega (arith, i.high) in
    record {
      high = i.high;
      low = omega (arith, below);
      before = low_more c.args.pairs.now c.requires c.args.pair m within (at_default c.args.pairs.now m c.args.pair _ within (c.is_before.ensures.0 c.if-is_before.true));
      rest = i.rest;
    }

pub loop-low-preserved : goal.loop-low-preserved
loop-low-preserved c =
    let i = c.loop-low.invariant in
    let m = c.loop-low.low + (c.loop-low.high - c.loop-low.low) / 2 in
    let below : m < c.loop-low.high = omega (arith, c.loop-low-test.true) in
    let within : m < length c.args.pairs.now = omega (arith, i.high) in
    record {
      high = omega (arith, i.high, below);
      low = omega arith;
      before = i.before;
      rest = high_less c.args.pairs.now c.requires c.args.pair m
          (λ d b. true_false _ (c.is_before.ensures.1 (at_default c.args.pairs.now m c.args.pair d within b _)) c.if-is_before.false);
    }
