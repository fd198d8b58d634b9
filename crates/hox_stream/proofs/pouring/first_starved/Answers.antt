-- One source more for whose tokens no process waits.
use Rattle.std.proofs.Common.{◌≡◌, sym, ap, ◌∙◌, arith, below_more}
use Rattle.std.proofs.lemmas.List.{get_or_default}
use Rattle.hox_stream.specs.Streams.{inlet_at, is_waited_for}
use Rattle.hox_stream.specs.Views.{InletView, no_inlet}
use Rattle.hox_stream.proofs.pouring.first_starved.Goals as goal

pub loop-k-preserved : goal.loop-k-preserved
loop-k-preserved g c =
    let here : c.index-inlets-k.result ≡ inlet_at c.args.inlets.now c.loop-k.k = c.index-inlets-k.is ∙ get_or_default c.args.inlets.now c.loop-k.k c.index-inlets-k.result no_inlet c.loop-k-test.true in
    below_more _ _ c.loop-k.invariant (λ h. sym (c.is_waited_for.ensures ∙ ap (λ (p : InletView). is_waited_for c.args.flow.now p) here) ∙ c.if-is_waited_for.false)

pub returns-clause-none : goal.returns-clause-none
returns-clause-none g c = λ j within from. c.loop-k.invariant j (omega (arith, c.loop-k-test.false)) from

pub returns-then-is_waited_for-clause-waited : goal.returns-then-is_waited_for-clause-waited
returns-then-is_waited_for-clause-waited g c =
    let here : c.index-inlets-k.result ≡ inlet_at c.args.inlets.now c.loop-k.k = c.index-inlets-k.is ∙ get_or_default c.args.inlets.now c.loop-k.k c.index-inlets-k.result no_inlet c.loop-k-test.true in
    sym (c.is_waited_for.ensures ∙ ap (λ (p : InletView). is_waited_for c.args.flow.now p) here) ∙ c.if-is_waited_for.true
