-- A flow that was just opened meets its invariant, and no channel was named twice.
use Rattle.std.proofs.Common.{◌≡◌, ◌∙◌, Some, ap, arith, length, map, refl}
use Rattle.std.proofs.lemmas.List.{length-map}
use Rattle.std.specs.Option.{option_map}
use Rattle.kpn_model.specs.declared.parts.Process.{Process}
use Rattle.kpn_model.specs.Network.{family_of}
use Rattle.kpn_model.specs.Semantics.{start}
use Rattle.kpn_machine.specs.Opening.{cards_of}
use Rattle.kpn_machine.proofs.Listed.{waiting_none}
use Rattle.kpn_machine.proofs.Seats.{card_at}
use Rattle.kpn_flow.specs.Flows.{AreEnds, HasAllBodies}
use Rattle.kpn_flow.proofs.Faults.{are_apart, are_ends}
use Rattle.kpn_flow.proofs.Kept.{flowing_start}
use Rattle.kpn_flow.proofs.flow.Flow.open.Goals as goal

pub invariant_of-result : goal.invariant_of-result
invariant_of-result g c =
    let kinds = family_of g.B.Kinds.Kinds.start g.B.Kinds.Kinds.answer_of in
    let cards : map g.B.Body.card c.args.bodies.items ≡ cards_of c.args.net.processes = rw c.as_slice.ensures.value at c.in_default.ensures.cards in
    let ends : AreEnds kinds c.args.net c.args.inputs.now c.args.outputs.now = are_ends kinds c.args.net (map g.B.Body.card c.args.bodies.items) c.args.inputs.now c.args.outputs.now cards (rw c.as_slice.ensures.value at c.in_default.ensures.none) in
    let all = length-map c.args.net.processes (λ (p : Process). p.card) in
    let same = ap length cards in
    let seated : HasAllBodies c.args.net (map (option_map g.B.Body.card) c.seat_all.new.slots.items) = record {
      many = length-map c.seat_all.new.slots.items (option_map g.B.Body.card) ∙ c.seat_all.ensures.slots ∙ c.in-Ok-Ok.ensures.slots;
      each = λ p below. c.seat_all.ensures.seated p (omega arith) ∙ ap Some (rw cards (card_at c.args.net.processes p));
    } in (
      rw (c.in-Ok-Ok.ensures.store, c.in-Ok-Ok.ensures.standings, c.in-Ok-Ok.ensures'.inputs, c.in-Ok-Ok.ensures'.unended, c.in-Ok-Ok.ensures'.outputs)
          (flowing_start kinds g.B.Kinds.Kinds.admits c.args.net c.args.inputs.now c.args.inputs.now c.args.outputs.now g.B.Kinds.Kinds.signature (map (option_map g.B.Body.card) c.seat_all.new.slots.items) c.assure_valid.ensures.valid c.in-Ok-Ok.ensures.admitted seated ends refl),
      rw (c.in-Ok-Ok.ensures.store, c.in-Ok-Ok.ensures.standings) (waiting_none c.args.net (start kinds c.args.net) (length c.args.net.processes) _ c.in-Ok-Ok.ensures.candidates c.in-Ok-Ok.ensures.marks),
    )

pub returns-clause-ends : goal.returns-clause-ends
returns-clause-ends g c =
    let kinds = family_of g.B.Kinds.Kinds.start g.B.Kinds.Kinds.answer_of in
    let cards : map g.B.Body.card c.args.bodies.items ≡ cards_of c.args.net.processes = rw c.as_slice.ensures.value at c.in_default.ensures.cards in
    are_ends kinds c.args.net (map g.B.Body.card c.args.bodies.items) c.args.inputs.now c.args.outputs.now cards (rw c.as_slice.ensures.value at c.in_default.ensures.none)

pub returns-clause-apart : goal.returns-clause-apart
returns-clause-apart g c =
    let kinds = family_of g.B.Kinds.Kinds.start g.B.Kinds.Kinds.answer_of in
    let cards : map g.B.Body.card c.args.bodies.items ≡ cards_of c.args.net.processes = rw c.as_slice.ensures.value at c.in_default.ensures.cards in
    are_apart kinds c.args.net (map g.B.Body.card c.args.bodies.items) c.args.inputs.now c.args.outputs.now cards (rw c.as_slice.ensures.value at c.in_default.ensures.none)
