-- The bodies' cards, one by one.
use denote.Param.Send.{sendable}
use Rattle.std.proofs.Common.{◌≡◌, sym, ap, ◌∙◌, arith, map, get_or, below_more}
use Rattle.kpn_model.specs.Network.{no_process}
use Rattle.std.proofs.lemmas.List.{length-map, ext_get_or}
use Rattle.kpn_machine.proofs.Seats.{at_map, card_at}
use Rattle.kpn_machine.proofs.opening.bodies_fault.Goals as goal

pub returns-then-not-same_card-clause-some : goal.returns-then-not-same_card-clause-some
returns-then-not-same_card-clause-some g c =
    let f = g.B.Body.card in
    let many = length-map c.args.bodies.now f in
    let here : get_or (map f c.args.bodies.now) c.loop-p.p no_process.card ≡ c.card.result = at_map f c.args.bodies.now c.loop-p.p c.index-bodies-p.result (omega arith) c.index-bodies-p.is ∙ sym c.card.ensures.card in (
      omega arith,
      λ e.
          let same : c.card.result ≡ c.card-in-loop-p.result = sym here ∙ ap (λ l. get_or l c.loop-p.p no_process.card) e ∙ card_at c.args.net.now.processes c.loop-p.p ∙ sym c.card-in-loop-p.ensures.is in
          let holds = c.same_card.ensures.1 same in
          let fails = c.if-not-same_card.true in
          cc,
    )

pub loop-p-preserved : goal.loop-p-preserved
loop-p-preserved g c =
    let f = g.B.Body.card in
    let here : get_or (map f c.args.bodies.now) c.loop-p.p no_process.card ≡ c.card.result = at_map f c.args.bodies.now c.loop-p.p c.index-bodies-p.result (omega arith) c.index-bodies-p.is ∙ sym c.card.ensures.card in
    below_more _ _ c.loop-p.invariant (here ∙ c.same_card.ensures.0 c.if-not-same_card.false ∙ c.card-in-loop-p.ensures.is)

pub returns-clause-none : goal.returns-clause-none
returns-clause-none g c =
    let f = g.B.Body.card in
    let many = length-map c.args.bodies.now f in
    let all = length-map c.args.net.now.processes (λ p. p.card) in
    ext_get_or no_process.card _ _ (omega arith) (λ i l. c.loop-p.invariant i (omega arith) ∙ sym (card_at c.args.net.now.processes i))

pub processes-requires : goal.processes-requires
processes-requires g c = search sendable

pub processes-p-end-requires : goal.processes-p-end-requires
processes-p-end-requires g c = search sendable

pub card-requires-in-loop-p : goal.card-requires-in-loop-p
card-requires-in-loop-p g c = (search sendable, (search sendable, omega (arith, c.loop-p-test.true, c.processes-p-end.ensures.count)))

pub returns-then-bodies-processes-clause-some : goal.returns-then-bodies-processes-clause-some
returns-then-bodies-processes-clause-some g c = λ e. c.if-bodies-processes.true (omega (arith, e, length-map c.args.bodies.now g.B.Body.card, c.processes.ensures.count))
