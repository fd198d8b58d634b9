-- One more body, with the next card.
use Rattle.std.proofs.Common.{ap, Some, sym, ◌∙◌}
use Rattle.kpn_body.proofs.Cards.{one_more, of_all}
use Rattle.test_programs.proofs.examples.flips.run_flips.Goals as goal

pub loop-process-preserved : goal.loop-process-preserved
loop-process-preserved g c = record {
  first = one_more (λ b. b.card) _ _ _ _ c.new-in-loop-process.result c.loop-process.invariant.first c.in_ok-push.ensures.items (c.signed_card-card.ensures.is ∙ ap (λ x. Some x) (sym c.new-in-loop-process.ensures));
  same = c.loop-process.invariant.same;
}

pub unreachable-requires : goal.unreachable-requires
unreachable-requires g c =
    let none = sym c.loop-process.invariant.same ∙ c.in_default.is in
    let some = rw none at c.requires.some in
    cc

pub execute-requires-clause-cards : goal.execute-requires-clause-cards
execute-requires-clause-cards g c κs within =
    let some = sym c.loop-process.invariant.same ∙ c.in-Some.is in
    let cards = rw some at c.requires.cards in
    of_all (λ b. b.card) _ _ _ c.loop-process.invariant.first c.loop-process-test.false ∙ cards

pub returns-clause-ok : goal.returns-clause-ok
returns-clause-ok g c =
    let some = sym c.loop-process.invariant.same ∙ c.in-Some.is in
    rw some c.execute.ensures
