-- The last body goes into its slot.
use Rattle.std.proofs.lemmas.Grind.{common_steps}
use Rattle.std.proofs.Common.{◌≡◌, ◌∙◌, arith, length, length-set}
use Rattle.kpn_machine.proofs.Seats.{left_stays, seat_taken}
use Rattle.kpn_machine.proofs.opening.seat_all.Goals as goal

pub loop-body-preserved-in-Some : goal.loop-body-preserved-in-Some
loop-body-preserved-in-Some g c =
    let i = c.loop-body.invariant in
    let f = g.B.Body.card in
    let is : c.len-process.result ≡ length c.pop.new.self.items = omega (arith, c.len-process.ensures, c.pop.new.self.ok.0) in
    record {
      seated = rw is (seat_taken f _ _ _ c.in-Some.ensures.items _ i.left _ _ i.slots i.few i.seated);
      left = left_stays f _ _ _ c.in-Some.ensures.items _ i.left;
      slots = length-set _ _ _ ∙ i.slots;
      few = omega (arith, i.few, c.in-Some.ensures.len);
      room = c.in-Some.ensures.capacity ∙ i.room;
    }

pub loop-body-preserved : goal.loop-body-preserved
loop-body-preserved g c =
    let i = c.loop-body.invariant in
    let f = g.B.Body.card in
    let is : c.len-process.result ≡ length c.pop.new.self.items = omega (arith, c.len-process.ensures, c.pop.new.self.ok.0) in
    record {
      seated = rw is (seat_taken f _ _ _ c.in-Some.ensures.items _ i.left _ _ i.slots i.few i.seated);
      left = left_stays f _ _ _ c.in-Some.ensures.items _ i.left;
      slots = length-set _ _ _ ∙ i.slots;
      few = omega (arith, i.few, c.in-Some.ensures.len);
      room = c.in-Some.ensures.capacity ∙ i.room;
    }

pub returns-clause-seated : goal.returns-clause-seated
returns-clause-seated g c = grind (arith, common_steps)
