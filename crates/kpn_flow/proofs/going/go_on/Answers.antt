-- Stretch after stretch the flow goes on.
use Rattle.std.proofs.Common.{◌∙◌, ap, arith, length, List}
use Rattle.kpn_model.specs.Network.{family_of}
use Rattle.kpn_model.specs.declared.history.Entry.{Entry}
use Rattle.kpn_model.specs.History.{growths}
use Rattle.kpn_state.proofs.Grown.{growths_few}
use Rattle.kpn_flow.proofs.Stretches.{ran_on, rests_there, cut_there}
use Rattle.kpn_flow.proofs.going.go_on.Goals as goal

pub returns-in-Some-clause-advances : goal.returns-in-Some-clause-advances
returns-in-Some-clause-advances g c =
    let none = ap (λ (l : List Entry). length (growths l)) c.in-Some.ensures.stretches.none in
    rests_there (family_of g.B.Kinds.Kinds.start g.B.Kinds.Kinds.answer_of) c.args.opened.now.net.now c.args.opened.now.inputs.now c.args.opened.now.outputs.now c.args.counts.now c.add.new.self c.args.core.now.store.state c.loop-done.core.store.state c.stretch-pause.new.core.store.state c.args.most c.loop-done.done c.loop-done.grown c.loop-done.grown c.stretch-pause.new.core.store.history c.in-Some.pause
    c.loop-done.invariant.ran c.loop-done.invariant.few c.stretch-pause.ensures.stretches.run c.in-Some.ensures.stretches.none (omega (arith, none)) (rw c.loop-done.invariant.counts at c.add.ensures.entries) (rw c.loop-done.invariant.counts at c.add.ensures.growths) c.in-Some.ensures.stretches.rests

pub returns-clause-advances : goal.returns-clause-advances
returns-clause-advances g c =
    let left = c.loop-done-test.false in
    let before = c.loop-done.invariant.few in
    cut_there (family_of g.B.Kinds.Kinds.start g.B.Kinds.Kinds.answer_of) c.args.opened.now.net.now c.args.opened.now.inputs.now c.args.opened.now.outputs.now c.args.counts.now c.add-2.new.self c.args.core.now.store.state c.loop-done.core.store.state c.args.most c.loop-done.done c.loop-done.grown
    c.loop-done.invariant.ran c.loop-done.invariant.few (omega arith) (rw c.loop-done.invariant.counts at c.add-2.ensures.entries) (rw c.loop-done.invariant.counts at c.add-2.ensures.growths)

pub overflow_add-grown : goal.overflow_add-grown
overflow_add-grown g c =
    let few = c.stretch-pause.ensures.stretches.few in
    let left = c.entries_of_stretch.ensures.few in
    let before = c.loop-done.invariant.few in
    let fewer = c.loop-done.invariant.few_grown in
    let among = growths_few c.stretch-pause.new.core.store.history in
    omega (arith, c.growths.ensures)

pub loop-done-preserved : goal.loop-done-preserved
loop-done-preserved g c =
    let few = c.stretch-pause.ensures.stretches.few in
    let left = c.entries_of_stretch.ensures.few in
    let before = c.loop-done.invariant.few in
    let fewer = c.loop-done.invariant.few_grown in
    let among = growths_few c.stretch-pause.new.core.store.history in
    record {
      settled = c.stretch-pause.ensures.stretches.settled;
      limit = c.stretch-pause.ensures.stretches.limit ∙ c.loop-done.invariant.limit;
      few = rw c.entries.ensures (omega arith);
      counts = c.loop-done.invariant.counts;
      few_grown = rw (c.entries.ensures, c.growths.ensures) (omega arith);
      again = c.stretch-pause.ensures.again;
      ran = rw (c.entries.ensures, c.growths.ensures)
          (ran_on (family_of g.B.Kinds.Kinds.start g.B.Kinds.Kinds.answer_of) c.args.opened.now.net.now c.args.opened.now.inputs.now c.args.opened.now.outputs.now c.args.core.now.store.state c.loop-done.core.store.state c.stretch-pause.new.core.store.state c.loop-done.done c.loop-done.grown c.stretch-pause.new.core.store.history c.loop-done.invariant.ran c.stretch-pause.ensures.stretches.run);
    }

pub returns-clause-told : goal.returns-clause-told
returns-clause-told g c = tt

pub stretch-pause-requires-after_bounds : goal.stretch-pause-requires-after_bounds
stretch-pause-requires-after_bounds g c κs within =
    record {
      settled = c.loop-done.invariant.settled;
      bodies = c.requires.bodies;
      ready = c.loop-done.invariant.again;
      some = c.entries_of_stretch.ensures.some;
      room = omega (arith, c.entries_of_stretch.ensures.room, c.loop-done.invariant.limit, c.requires.room);
    }
