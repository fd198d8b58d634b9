-- One more card; and each card has a signature, since the network is valid.
use Rattle.std.proofs.lemmas.Grind.{common_steps}
use Rattle.std.proofs.Common.{◌≤◌, ◌∙◌, ◌∷◌, ◌++◌, [], length, arith, ap}
use Rattle.std.proofs.lemmas.List.{length-map, take_all}
use Rattle.kpn_model.specs.declared.parts.Process.{Process}
use Rattle.kpn_machine.specs.Opening.{cards_of}
use Rattle.kpn_machine.proofs.Seats.{card_more, all_signed}
use Rattle.kpn_machine.proofs.opening.cards_of.Goals as goal

pub loop-process-preserved : goal.loop-process-preserved
loop-process-preserved g c = card_more _ _ _ _ c.loop-process.invariant (c.in_ok-push.ensures.items ∙ ap (λ x. c.loop-process.cards.items ++ x ∷ []) c.card.ensures.is) (omega arith)

pub returns-clause-signed : goal.returns-clause-signed
returns-clause-signed g c =
    let all = length-map c.args.net.now.processes (λ (p : Process). p.card) in
    let long : length (cards_of c.args.net.now.processes) ≤ c.loop-process.process = omega (arith, c.processes-process-end.ensures.count) in
    all_signed g.K.Kinds.signature _ _ (c.loop-process.invariant.is ∙ take_all c.loop-process.process (cards_of c.args.net.now.processes) long) c.processes-process-end.ensures.valid.signed

pub returns-clause-cards : goal.returns-clause-cards
returns-clause-cards g c = grind (arith, common_steps)
