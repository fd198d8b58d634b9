-- Ready processes that are asked one after the other, and what follows, are rounds of the machine.
use Rattle.std.proofs.lemmas.Grind.{common_steps}
use Rattle.std.proofs.lemmas.List.{length-map}
use denote.Param.Send.{sendable}
use Rattle.std.proofs.Common.{◌≡◌, ◌<◌, None, arith, length, map}
use Rattle.std.specs.Option.{option_map}
use Rattle.kpn_model.specs.Network.{family_of}
use Rattle.kpn_machine.proofs.Rounds.{gone, room_after}
use Rattle.kpn_machine.proofs.Sound.{commits_fit}
use Rattle.kpn_machine.proofs.machine.Machine.go_on.Goals as goal

pub ask_ready-asked-requires-clause-coherent : goal.ask_ready-asked-requires-clause-coherent
ask_ready-asked-requires-clause-coherent g c κs within = record { keeps = c.self.invariant.0.keeps; waiting = c.self.invariant.2 }

pub settle-ended-requires-clause-room : goal.settle-ended-requires-clause-room
settle-ended-requires-clause-room g c κs within =
    let asked = rw c.budget-budget.ensures at c.ask_ready-asked.ensures.asked in
    let none : c.self.inside.end ≡ None = rw (← c.self.view_is) at c.requires in
    let less : length c.self.inside.core.store.history < c.self.inside.net.budget = rw none at c.self.invariant.0.ends in
    room_after (family_of g.B.Kinds.Kinds.start g.B.Kinds.Kinds.answer_of) g.B.Kinds.Kinds.admits c.self.inside.net asked.0 c.self.inside.core.store c.ask_ready-asked.new.core.store c.self.inside.core.standings c.ask_ready-asked.new.core.standings
    (omega (arith, c.self.invariant.0.limit_is)) (λ idle. omega (arith, c.self.invariant.0.limit_is)) asked.2

pub overflow_add-self : goal.overflow_add-self
overflow_add-self g c =
    let asked = rw c.budget-budget.ensures at c.ask_ready-asked.ensures.asked in
    let none : c.self.inside.end ≡ None = rw (← c.self.view_is) at c.requires in
    let all = gone (family_of g.B.Kinds.Kinds.start g.B.Kinds.Kinds.answer_of) g.B.Kinds.Kinds.admits c.self.inside.net (map (option_map g.B.Body.card) c.self.inside.bodies.items) c.self.inside.core.store c.ask_ready-asked.new.core.store c.settle-ended.new.core.store
    c.self.inside.core.standings c.ask_ready-asked.new.core.standings c.settle-ended.new.core.standings c.self.inside.end c.self.inside.commits c.ask_ready-asked.result c.self.invariant.0 none asked c.settle-ended.result.0 c.settle-ended.ensures.resolves c.settle-ended.ensures.coherent.keeps c.settle-ended.result.1 c.settle-ended.ensures.ended in
    let valid = c.assure_valid.ensures.valid in
    let few = all.sound.few in
    let fit = commits_fit all.sound in
    let some = valid.few_processes in
    let small = valid.small_budget in
    omega arith

pub invariant_of-self : goal.invariant_of-self
invariant_of-self g c =
    let asked = rw c.budget-budget.ensures at c.ask_ready-asked.ensures.asked in
    let none : c.self.inside.end ≡ None = rw (← c.self.view_is) at c.requires in
    let all = gone (family_of g.B.Kinds.Kinds.start g.B.Kinds.Kinds.answer_of) g.B.Kinds.Kinds.admits c.self.inside.net (map (option_map g.B.Body.card) c.self.inside.bodies.items) c.self.inside.core.store c.ask_ready-asked.new.core.store c.settle-ended.new.core.store
    c.self.inside.core.standings c.ask_ready-asked.new.core.standings c.settle-ended.new.core.standings c.self.inside.end c.self.inside.commits c.ask_ready-asked.result c.self.invariant.0 none asked c.settle-ended.result.0 c.settle-ended.ensures.resolves c.settle-ended.ensures.coherent.keeps c.settle-ended.result.1 c.settle-ended.ensures.ended in
    (rw c.note_end.ensures all.sound, c.self.invariant.1, c.settle-ended.ensures.coherent.waiting)

pub returns : goal.returns
returns g c =
    let asked = rw c.budget-budget.ensures at c.ask_ready-asked.ensures.asked in
    let none : c.self.inside.end ≡ None = rw (← c.self.view_is) at c.requires in
    let all = gone (family_of g.B.Kinds.Kinds.start g.B.Kinds.Kinds.answer_of) g.B.Kinds.Kinds.admits c.self.inside.net (map (option_map g.B.Body.card) c.self.inside.bodies.items) c.self.inside.core.store c.ask_ready-asked.new.core.store c.settle-ended.new.core.store
    c.self.inside.core.standings c.ask_ready-asked.new.core.standings c.settle-ended.new.core.standings c.self.inside.end c.self.inside.commits c.ask_ready-asked.result c.self.invariant.0 none asked c.settle-ended.result.0 c.settle-ended.ensures.resolves c.settle-ended.ensures.coherent.keeps c.settle-ended.result.1 c.settle-ended.ensures.ended in
    record {
      rounds = (all.outcomes, all.count, rw (← c.self.view_is, c.note_end.ensures) all.rounds);
      few = c.ask_ready-asked.ensures.most;
      stuck = grind (arith, common_steps);
    }

pub assure_valid-requires : goal.assure_valid-requires
assure_valid-requires g c = search sendable

pub budget-budget-requires : goal.budget-budget-requires
budget-budget-requires g c = search sendable

pub ask_ready-asked-requires-clause-slots : goal.ask_ready-asked-requires-clause-slots
ask_ready-asked-requires-clause-slots g c κs within =
    let sound = c.self.invariant.0 in
    rw c.as_slice.ensures.value (omega (arith, sound.keeps.one_each, sound.many_bodies, length-map c.self.inside.bodies.items (option_map g.B.Body.card)))
