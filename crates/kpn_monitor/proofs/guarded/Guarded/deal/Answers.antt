-- The first task went out, and then others; or none did.
use Rattle.std.proofs.lemmas.Grind.{common_steps}
use Rattle.std.proofs.Common.{◌≡◌, ◌∙◌, ◌++◌, ◌∷◌, ◌≤◌, List, [], length, ap, sym, arith}
use Rattle.kpn_model.specs.Network.{family_of}
use Rattle.std.specs.Prelude.{Some}
use Rattle.kpn_body.specs.Input.{Input}
use Rattle.kpn_monitor.specs.Views.{Holding, Shares}
use Rattle.kpn_monitor.specs.Kept.{WasTaken}
use Rattle.kpn_monitor.proofs.Handing.{all_one, no_item}
use Rattle.kpn_monitor.proofs.guarded.Guarded.deal.Goals as goal

pub returns-in-Some-Task-clause-deals : goal.returns-in-Some-Task-clause-deals
returns-in-Some-Task-clause-deals g c =
    let t = c.in-Some-Task.first in
    let first = c.in-Some-Task.ensures.task t (ap Some c.in-Some-Task.field-0-is) in
    let received = rw c.in-Some-Task.field-0-is at c.in-Some-Task.ensures.received in
    let deals = c.deal_more-in-Some-Task.ensures.deals in
    let more = deals.out in
    let none : c.args.hand.now.tasks ≡ [] = no_item c.args.hand.now.tasks (omega (arith, c.if-len-gt0.false, c.len.ensures.len)) in
    let one = ap (λ (h : Holding). h.tasks) c.put.ensures in
    record {
      out = (
        t ∷ more.0,
        more.1 ∙ ap (λ (l : List Input). l ++ more.0) one ∙ ap (λ (l : List Input). (l ++ t ∷ []) ++ more.0) none ∙ ap (λ (l : List Input). l ++ t ∷ more.0) (sym none),
        (c.take.new.self.machine, first, more.2),
      );
      taken = λ all. deals.taken
          (all_one (WasTaken (family_of g.B.Kinds.Kinds.start g.B.Kinds.Kinds.answer_of) g.B.Kinds.Kinds.admits g.E.EntryLedger.net) c.put.new.self.tasks t (one ∙ ap (λ (l : List Input). l ++ t ∷ []) none) received.1);
    }

pub returns-in-Some-Task-clause-tasks : goal.returns-in-Some-Task-clause-tasks
returns-in-Some-Task-clause-tasks g c = λ is.
    let received = rw c.in-Some-Task.field-0-is at c.in-Some-Task.ensures.received in (received.0, c.deal_more-in-Some-Task.ensures.some)

pub returns-in-Some-Task-clause-seat : goal.returns-in-Some-Task-clause-seat
returns-in-Some-Task-clause-seat g c =
    let received = rw c.in-Some-Task.field-0-is at c.in-Some-Task.ensures.received in (ap (λ (s : Shares). s.parts) received.0, ap (λ (s : Shares). s.entries) received.0)

pub returns-in-Some-Task-clause-most : goal.returns-in-Some-Task-clause-most
returns-in-Some-Task-clause-most g c =
    let none : c.args.hand.now.tasks ≡ [] = no_item c.args.hand.now.tasks (omega (arith, c.if-len-gt0.false, c.len.ensures.len)) in
    let one : length c.put.new.self.tasks ≡ 1 = ap (λ (h : Holding). length h.tasks) c.put.ensures ∙ ap (λ (l : List Input). length (l ++ c.in-Some-Task.first ∷ [])) none in
    let some : 1 ≤ c.args.most = omega (arith, c.if-most-eq0.false) in
    c.deal_more-in-Some-Task.ensures.many c.args.most (omega (arith, one, some)) (c.requires.wanted.1 some)

pub returns-in-Some-Over-clause-over : goal.returns-in-Some-Over-clause-over
returns-in-Some-Over-clause-over g c = grind (arith, common_steps)

pub deal_more-requires-in-Some-Task-clause-some : goal.deal_more-requires-in-Some-Task-clause-some
deal_more-requires-in-Some-Task-clause-some g c = grind (arith, common_steps)

pub returns-in-Some-clause-over : goal.returns-in-Some-clause-over
returns-in-Some-clause-over g c = grind (arith, common_steps)

pub returns-in-None-take-clause-nothing : goal.returns-in-None-take-clause-nothing
returns-in-None-take-clause-nothing g c = grind (arith, common_steps)

pub returns-in-None-clause-nothing : goal.returns-in-None-clause-nothing
returns-in-None-clause-nothing g c = grind (arith, common_steps)
