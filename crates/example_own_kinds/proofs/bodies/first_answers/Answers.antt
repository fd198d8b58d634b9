use Rattle.std.proofs.Common.{None, ◌∙◌, ◌≤◌, length, arith}
use Rattle.kpn_standard.specs.Standard.{standard}
use Rattle.kpn_body.proofs.Cards.{one_more_card}
use Rattle.example_own_kinds.proofs.AnswersOfAll.{answers_of_all}
use Rattle.example_own_kinds.proofs.bodies.first_answers.Goals as goal

pub loop-process-preserved : goal.loop-process-preserved
loop-process-preserved c = one_more_card (λ b. b.card) _ _ _ _ c.new-in-loop-process.result c.loop-process.invariant c.in_ok-push.ensures.items (omega arith) (c.new-in-loop-process.ensures ∙ c.card-card.ensures.is)

pub returns : goal.returns
returns c =
    let long : length c.args.net.now.processes ≤ c.loop-process.process = omega arith in
    rw (← answers_of_all (λ b. b.card) (λ p. p.card) (λ card. standard.answer card (standard.start card) None) c.loop-process.bodies.items c.args.net.now.processes c.loop-process.process c.loop-process.invariant long) c.each_first_answer.ensures
