-- One more task was dealt.
use Rattle.std.proofs.lemmas.Grind.{common_steps}
use Rattle.std.proofs.Common.{◌∙◌, ◌++◌, ◌∷◌, [], ap, arith, length, append-nil, append_assoc, refl, sym, List}
use Rattle.kpn_model.specs.Network.{family_of}
use Rattle.kpn_body.specs.Input.{Input}
use Rattle.kpn_monitor.specs.Views.{Holding}
use Rattle.kpn_monitor.specs.Kept.{WasTaken}
use Rattle.kpn_monitor.proofs.Handing.{takes_more, all_more, length_more}
use Rattle.kpn_monitor.proofs.guarded.Guarded.deal_more.Goals as goal

pub loop-i-init : goal.loop-i-init
loop-i-init g c = record {
  deals = record { out = ([], sym (append-nil c.args.hand.now.tasks), refl); taken = λ all. all };
  some = c.requires.some;
  many = omega (arith, c.len-i.ensures.len);
  bound = λ n few most. few;
  called = refl;
  outcomes = refl;
}

pub loop-i-preserved : goal.loop-i-preserved
loop-i-preserved g c =
    let i = c.loop-i.invariant in
    let more = c.deal_one.ensures.more c.if-not-deal_one.false in
    let before = c.loop-i.hand in
    let after = c.deal_one.new.hand in
    let tasks = ap (λ (h : Holding). h.tasks) more.1 in
    let longer = length_more before.tasks more.0 in
    record {
      deals = record {
        out = (
          i.deals.out.0 ++ more.0 ∷ [],
          tasks ∙ ap (λ (l : List Input). l ++ more.0 ∷ []) i.deals.out.1 ∙ append_assoc c.args.hand.now.tasks i.deals.out.0 (more.0 ∷ []),
          takes_more c.args.self.now.machine i.deals.out.0 c.loop-i.self.machine more.0 c.deal_one.new.self.machine i.deals.out.2 more.2,
        );
        taken = λ all. all_more (WasTaken (family_of g.B.Kinds.Kinds.start g.B.Kinds.Kinds.answer_of) g.B.Kinds.Kinds.admits g.E.EntryLedger.net) before.tasks after.tasks more.0 tasks (i.deals.taken all) more.3;
      };
      some = omega (arith, i.some, ap length tasks, longer);
      many = omega (arith, i.many, ap length tasks, longer);
      bound = λ n few most. omega (arith, i.many, ap length tasks, longer, most);
      called = ap (λ (h : Holding). h.called) more.1 ∙ i.called;
      outcomes = ap (λ (h : Holding). h.outcomes) more.1 ∙ i.outcomes;
    }

pub returns-after-loop-i-clause-deals : goal.returns-after-loop-i-clause-deals
returns-after-loop-i-clause-deals g c = c.loop-i.invariant.deals

pub returns-then-not-deal_one-clause-deals : goal.returns-then-not-deal_one-clause-deals
returns-then-not-deal_one-clause-deals g c =
    let none = c.deal_one.ensures.none c.if-not-deal_one.true in
    rw (none.0, none.1) c.loop-i.invariant.deals

pub returns-after-loop-i-clause-many : goal.returns-after-loop-i-clause-many
returns-after-loop-i-clause-many g c = c.loop-i.invariant.bound

pub returns-then-not-deal_one-clause-some : goal.returns-then-not-deal_one-clause-some
returns-then-not-deal_one-clause-some g c = grind (arith, common_steps)

pub returns-then-not-deal_one-clause-many : goal.returns-then-not-deal_one-clause-many
returns-then-not-deal_one-clause-many g c = grind (arith, common_steps)
