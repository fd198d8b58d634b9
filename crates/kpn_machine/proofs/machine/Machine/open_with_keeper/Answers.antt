-- A machine that was just opened meets its invariant.
use denote.Param.Send.{sendable}
use Rattle.std.proofs.Common.{◌≡◌, length, map, ap, ◌∙◌, arith, rules}
use Rattle.kpn_model.specs.Network.{family_of}
use Rattle.std.proofs.lemmas.List.{length-map}
use Rattle.kpn_model.specs.declared.parts.Process.{Process}
use Rattle.kpn_model.specs.Semantics.{start}
use Rattle.kpn_machine.specs.Opening.{cards_of}
use Rattle.kpn_machine.proofs.Listed.{waiting_none}
use Rattle.kpn_machine.proofs.Opened.{sound_opened}
use Rattle.kpn_machine.proofs.Opened.{opened_fresh}
use Rattle.kpn_machine.proofs.machine.Machine.open_with_keeper.Goals as goal

pub invariant_of-result : goal.invariant_of-result
invariant_of-result g c =
    let cards : map g.B.Body.card c.args.bodies.items ≡ cards_of c.args.net.processes = rw c.as_slice.ensures.value at c.in_default.ensures.none in
    let all = length-map c.args.net.processes (λ (p : Process). p.card) in
    let many = length-map c.args.bodies.items g.B.Body.card in
    let same = ap length cards in (
      rw (c.in-Ok.ensures.store, c.in-Ok.ensures.standings, c.budget.ensures)
          (sound_opened g.B.Kinds.Kinds.signature g.B.Kinds.Kinds.admits (family_of g.B.Kinds.Kinds.start g.B.Kinds.Kinds.answer_of) c.args.net c.assure_valid.ensures.valid c.in-Ok.ensures.admitted (map g.B.Body.card c.args.bodies.items) _ cards c.seat_all.ensures.seated
          (length-map c.seat_all.new.slots.items _ ∙ c.seat_all.ensures.slots ∙ c.in-Ok.ensures.slots)),
      record { emptied = c.seat_all.ensures.emptied; enough = omega (arith, c.seat_all.ensures.room, c.args.bodies.ok.0, c.args.bodies.ok.1) },
      rw (c.in-Ok.ensures.store, c.in-Ok.ensures.standings) (waiting_none c.args.net (start (family_of g.B.Kinds.Kinds.start g.B.Kinds.Kinds.answer_of) c.args.net) (length c.args.net.processes) _ c.in-Ok.ensures.candidates c.in-Ok.ensures.marks),
    )

pub returns-clause-fresh : goal.returns-clause-fresh
returns-clause-fresh g c = opened_fresh _ c.args.net (start (family_of g.B.Kinds.Kinds.start g.B.Kinds.Kinds.answer_of) c.args.net) (length c.args.net.processes) (search rules)

pub bodies_fault-requires : goal.bodies_fault-requires
bodies_fault-requires g c = search sendable

pub assure_valid-requires : goal.assure_valid-requires
assure_valid-requires g c = search sendable

pub budget-requires : goal.budget-requires
budget-requires g c = search sendable

pub seat_all-requires : goal.seat_all-requires
seat_all-requires g c = let cards : map g.B.Body.card c.args.bodies.items ≡ cards_of c.args.net.processes = rw c.as_slice.ensures.value at c.in_default.ensures.none in let all = length-map c.args.net.processes (λ (p : Process). p.card) in let many = length-map c.args.bodies.items g.B.Body.card in let same = ap length cards in (search sendable, (search sendable, (search sendable, omega (arith, c.in-Ok.ensures.slots, all, many, same))))
