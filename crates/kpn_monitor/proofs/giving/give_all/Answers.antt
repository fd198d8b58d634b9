-- One more answer was given, and its outcome was noted; its process may have gone out again.
use Rattle.std.proofs.lemmas.Grind.{common_steps}
use Rattle.std.proofs.Common.{◌≡◌, ◌∙◌, ◌∷◌, List, Some, ap, sym, arith, rules}
use Rattle.std.specs.Prelude.{slice_get}
use Rattle.kpn_model.specs.Network.{family_of}
use Rattle.kpn_body.specs.Input.{Input}
use Rattle.kpn_machine.specs.MachineView.{IsOut}
use Rattle.kpn_monitor.specs.Views.{Placed}
use Rattle.kpn_monitor.specs.Places.{GivesFirst}
use Rattle.kpn_monitor.proofs.GivenOn.{gave_on_again, gives_first}
use Rattle.kpn_monitor.proofs.giving.give_all.Goals as goal

pub loop-machine-preserved-then-stay : goal.loop-machine-preserved-then-stay
loop-machine-preserved-then-stay g c =
    let kinds = family_of g.B.Kinds.Kinds.start g.B.Kinds.Kinds.answer_of in
    let i = c.loop-machine.invariant in
    let st = c.stay.ensures.stays c.if-stay.true in
    let first : slice_get c.loop-machine.places.tasks 0 ≡ Some st.0 = ap (λ (l : List Input). slice_get l 0) st.4.0 in
    let out : IsOut c.loop-machine.machine st.0 = search rules in
    let one = gave_on_again kinds g.B.Kinds.Kinds.admits c.loop-machine.machine c.loop-machine.places c.stay.new.machine c.stay.new.self st.0 st.1 st.2
    (st.4.0 ∙ ap (λ (l : List Input). st.0 ∷ l) (sym (ap (λ (q : Placed). q.tasks) st.4.1)))
    st.4.2
    (ap (λ (q : Placed). q.outcomes) st.4.1)
    (ap (λ (q : Placed). q.again) st.4.1)
    c.assure_faithful.ensures.faithful
    out
    c.assure_faithful-then-stay.ensures.faithful
    st.4.3 in
    let next = gives_first kinds g.B.Kinds.Kinds.admits c.args.machine.now c.args.places.now.tasks c.loop-machine.machine c.loop-machine.places c.args.places.now.called c.stay.new.machine c.stay.new.self
    (record { machine = i.machine; network = i.network; committed = i.committed; taken = i.taken; called_is = i.called; count = i.count }) one in
    record {
      machine = next.machine;
      network = next.network;
      committed = next.committed;
      taken = next.taken;
      most = grind (arith, common_steps);
      called = next.called_is;
      count = next.count;
      few = i.few;
    }

pub loop-machine-preserved : goal.loop-machine-preserved
loop-machine-preserved g c =
    let kinds = family_of g.B.Kinds.Kinds.start g.B.Kinds.Kinds.answer_of in
    let i = c.loop-machine.invariant in
    let one : GivesFirst kinds g.B.Kinds.Kinds.admits c.loop-machine.machine c.loop-machine.places c.give_and_leave.new.machine c.give_and_leave.new.places = search rules in
    let next = gives_first kinds g.B.Kinds.Kinds.admits c.args.machine.now c.args.places.now.tasks c.loop-machine.machine c.loop-machine.places c.args.places.now.called c.give_and_leave.new.machine c.give_and_leave.new.places
    (record { machine = i.machine; network = i.network; committed = i.committed; taken = i.taken; called_is = i.called; count = i.count }) one in
    record {
      machine = next.machine;
      network = next.network;
      committed = next.committed;
      taken = next.taken;
      most = grind (arith, common_steps);
      called = next.called_is;
      count = next.count;
      few = i.few;
    }
