-- One more body, with the next card.
use Rattle.std.proofs.Common.{◌∙◌, ◌≤◌, length, arith}
use Rattle.std.proofs.lemmas.List.{length-map}
use Rattle.kpn_machine.specs.Opening.{cards_of}
use Rattle.kpn_body.proofs.Cards.{one_more_card, of_all}
use Rattle.test_programs.proofs.called.called_bodies.Goals as goal

pub loop-process-preserved : goal.loop-process-preserved
loop-process-preserved c =
    one_more_card (λ b. b.card) _ _ _ _ c.in_ok-called_body.field-0 c.loop-process.invariant c.in_ok-push.ensures.items (omega arith) (c.in_ok-called_body.ensures ∙ c.card.ensures.is)

pub returns : goal.returns
returns c =
    let all = length-map c.args.net.now.processes (λ p. p.card) in
    let long : length (cards_of c.args.net.now.processes) ≤ c.loop-process.process = omega (arith, all) in
    of_all (λ b. b.card) _ _ _ c.loop-process.invariant long
