-- Each slot of a fresh machine has its body.
use denote.Param.Send.{sendable}
use Rattle.std.proofs.Common.{◌≡◌, ◌<◌, ◌+◌, length, get_or, sym, ap, ◌∙◌, arith, length-set, length-append}
use Rattle.std.specs.Option.{option_map}
use Rattle.std.proofs.lemmas.List.{length-map, ext_get_or}
use Rattle.std.proofs.lemmas.Option.{same_Some}
use Rattle.kpn_model.specs.declared.parts.Process.{Process}
use Rattle.kpn_model.specs.Network.{no_process}
use Rattle.kpn_machine.specs.Opening.{cards_of}
use Rattle.kpn_machine.specs.MachineView.{MachineView}
use Rattle.std.proofs.Common.{Some, true}
use Rattle.std.specs.List.{list_all}
use Rattle.kpn_model.specs.declared.kinds.Card.{Card}
use Rattle.kpn_state.specs.Standings.{is_ready}
use Rattle.kpn_state.proofs.Placed.{ready_not_out_at}
use Rattle.kpn_machine.proofs.Seats.{card_at, slot_at, kept_later, back_more}
use Rattle.kpn_machine.proofs.machine.Machine.into_parts.Goals as goal

pub loop-p-init : goal.loop-p-init
loop-p-init g c =
    let ready : list_all is_ready c.self.inside.core.standings ≡ true = rw (← c.self.view_is) at c.requires.all_ready in
    let all = length-map c.self.inside.bodies.items (option_map g.B.Body.card) in
    let sound = c.self.invariant.0 in
    let spare = c.self.invariant.1 in
    rw (← c.self.view_is) (record {
      kept = λ q from below. sound.has_bodies q below (ready_not_out_at c.self.inside.core.standings q ready) ∙ ap (λ (x : Card). Some x) (sym (card_at c.self.inside.net.processes q));
      back = λ q below. absurd (omega arith);
      many = ap length spare.emptied;
      slots = sym all ∙ sound.many_bodies;
      room = spare.enough;
    })

pub unreachable-requires : goal.unreachable-requires
unreachable-requires g c =
    let f = g.B.Body.card in
    let i = c.loop-p.invariant in
    let same : length c.self.inside.net.processes ≡ length c.args.self.network.processes = ap (λ (x : MachineView). length x.network.processes) c.self.view_is in
    let within : c.loop-p.p < length c.loop-p.bodies.items = omega (arith, c.loop-p-test.true, c.processes-p-end.ensures.count, i.slots) in
    let here = slot_at f c.loop-p.bodies.items c.loop-p.p c.index_mut.result.now within c.index_mut.ensures.value in
    let kept = i.kept c.loop-p.p (omega arith) (omega (arith, i.slots)) in
    let none = ap (option_map f) (sym c.take.ensures.value ∙ c.in_default.is) in
    cc

pub loop-p-preserved : goal.loop-p-preserved
loop-p-preserved g c =
    let f = g.B.Body.card in
    let i = c.loop-p.invariant in
    let same : length c.self.inside.net.processes ≡ length c.args.self.network.processes = ap (λ (x : MachineView). length x.network.processes) c.self.view_is in
    let within : c.loop-p.p < length c.loop-p.bodies.items = omega (arith, c.loop-p-test.true, c.processes-p-end.ensures.count, i.slots) in
    let here = slot_at f c.loop-p.bodies.items c.loop-p.p c.index_mut.result.now within c.index_mut.ensures.value in
    let kept = i.kept c.loop-p.p (omega arith) (omega (arith, i.slots)) in
    let some = ap (option_map f) (sym c.take.ensures.value ∙ c.in-Some.is) in
    let card : f c.in-Some.body ≡ get_or (cards_of c.args.self.network.processes) c.loop-p.p no_process.card = same_Some _ _ (sym some ∙ sym here ∙ kept) in
    record {
      kept = kept_later f c.loop-p.bodies.items c.loop-p.p _ c.take.new.self _ i.kept;
      back = back_more f c.loop-p.spare.items c.push_reserved.new.self.items c.in-Some.body _ c.loop-p.p c.push_reserved.ensures.items i.many card i.back;
      many = ap length c.push_reserved.ensures.items ∙ length-append _ _ ∙ ap (λ n. n + 1) i.many;
      slots = length-set _ _ _ ∙ i.slots;
      room = omega (arith, i.room, c.push_reserved.ensures.capacity);
    }

pub returns-clause-bodies : goal.returns-clause-bodies
returns-clause-bodies g c =
    let i = c.loop-p.invariant in
    let many = length-map c.loop-p.spare.items g.B.Body.card in
    let all = length-map c.args.self.network.processes (λ (p : Process). p.card) in
    let long = i.many in
    let same : length c.self.inside.net.processes ≡ length c.args.self.network.processes = ap (λ (x : MachineView). length x.network.processes) c.self.view_is in
    ext_get_or no_process.card _ _ (omega (arith, c.loop-p-test.false, c.loop-p.auto.p-end, c.processes-p-end.ensures.count)) (λ q below. i.back q (omega arith))

pub processes-p-end-requires : goal.processes-p-end-requires
processes-p-end-requires g c = search sendable
