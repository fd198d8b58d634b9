-- One more body, with the next card.
use Rattle.std.proofs.Common.{◌≡◌, ap, Some, sym, ◌∙◌, arith}
use Rattle.kpn_body.proofs.Cards.{one_more, of_all}
use Rattle.kpn_execute.proofs.standard.make_and_execute.Goals as goal

pub loop-process-preserved : goal.loop-process-preserved
loop-process-preserved g c =
    let card_is : c.match-kind.body.card ≡ c.signed_card-signed.result.card = grind arith in
    record {
      first = one_more (λ b. b.card) _ _ _ _ c.match-kind.body c.loop-process.invariant.first c.in_ok-push.ensures.items (c.signed_card-signed.ensures ∙ ap (λ x. Some x) (sym card_is));
      same = c.loop-process.invariant.same;
    }

pub unreachable-requires : goal.unreachable-requires
unreachable-requires g c =
    let none = sym c.loop-process.invariant.same ∙ c.in_default.is in
    absurd (rw none at c.requires.cards)

pub execute-requires-clause-cards : goal.execute-requires-clause-cards
execute-requires-clause-cards g c κs within =
    let some = sym c.loop-process.invariant.same ∙ c.in-Some.is in
    let cards = rw some at c.requires.cards in
    of_all (λ b. b.card) _ _ _ c.loop-process.invariant.first c.loop-process-test.false ∙ cards

pub returns-clause-ok : goal.returns-clause-ok
returns-clause-ok g c =
    let some = sym c.loop-process.invariant.same ∙ c.in-Some.is in
    rw some c.execute.ensures
