-- One body more, with the next card.
use Rattle.std.proofs.Common.{◌≤◌, ◌∙◌, length, map, arith}
use Rattle.std.proofs.lemmas.List.{length-map}
use Rattle.kpn_model.specs.declared.parts.Process.{Process}
use Rattle.kpn_body.proofs.Cards.{one_more_card, of_all}
use Rattle.kpn_compute.proofs.bodies.bodies_of.Goals as goal

pub loop-process-preserved : goal.loop-process-preserved
loop-process-preserved g c = one_more_card (λ b. b) _ _ _ _ c.new.result c.loop-process.invariant c.in_ok-push.ensures.items (omega (arith, c.processes-process-end.ensures.count)) (c.new.ensures ∙ c.card.ensures.is)

pub returns : goal.returns
returns g c =
    let all = length-map c.args.net.now.processes (λ (p : Process). p.card) in
    let long : length (map (λ (p : Process). p.card) c.args.net.now.processes) ≤ c.loop-process.process = omega (arith, c.processes-process-end.ensures.count) in
    of_all (λ b. b) _ _ _ c.loop-process.invariant long
