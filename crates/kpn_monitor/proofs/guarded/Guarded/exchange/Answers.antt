-- The answers were given, published and booked, and then tasks were dealt; or one was refused.
use Rattle.std.proofs.Common.{◌∙◌, ◌+◌, [], ◌∷◌, ap, subst, arith}
use Rattle.std.specs.List.{All}
use Rattle.kpn_model.specs.Network.{Network, family_of}
use Rattle.kpn_monitor.specs.Views.{Shares}
use Rattle.kpn_monitor.specs.Kept.{WasTaken}
use Rattle.kpn_monitor.specs.Hands.{WereCommitted}
use Rattle.kpn_monitor.proofs.Handing.{gave, kept_on, shows_on, stays_shown}
use Rattle.kpn_monitor.proofs.guarded.Guarded.exchange.Goals as goal

pub publish-requires-clause-goes_on : goal.publish-requires-clause-goes_on
publish-requires-clause-goes_on g c κs within =
    shows_on g.E.EntryLedger.board c.self.inside.machine c.self.inside.publisher c.give-refused.new.machine _ c.self.invariant.1 (gave (family_of g.B.Kinds.Kinds.start g.B.Kinds.Kinds.answer_of) g.B.Kinds.Kinds.admits _ _ _ _ _ _ c.give-refused.ensures)

pub publish-requires-clause-ended : goal.publish-requires-clause-ended
publish-requires-clause-ended g c κs within =
    stays_shown g.E.EntryLedger.board c.self.inside.machine c.self.inside.publisher c.give-refused.new.machine _ c.self.invariant.1 (gave (family_of g.B.Kinds.Kinds.start g.B.Kinds.Kinds.answer_of) g.B.Kinds.Kinds.admits _ _ _ _ _ _ c.give-refused.ensures)

pub overflow_sub-more : goal.overflow_sub-more
overflow_sub-more g c =
    let gone = gave (family_of g.B.Kinds.Kinds.start g.B.Kinds.Kinds.answer_of) g.B.Kinds.Kinds.admits _ _ _ _ _ _ c.give-refused.ensures in
    omega (arith, gone.count, c.entries-before.ensures, c.entries.ensures)

pub invariant_of-self : goal.invariant_of-self
invariant_of-self g c =
    let kinds = family_of g.B.Kinds.Kinds.start g.B.Kinds.Kinds.answer_of in
    let gone = gave kinds g.B.Kinds.Kinds.admits _ _ _ _ _ _ c.give-refused.ensures in
    let on = kept_on kinds g.B.Kinds.Kinds.admits g.E.EntryLedger.net g.E.EntryLedger.board _ _ _ _ _ _ _ _ c.self.invariant.0 c.self.invariant.1 gone c.publish.ensures.faithful c.publish.ensures.published (omega (arith, c.add_entries.ensures.book, gone.count, c.entries-before.ensures, c.entries.ensures)) in
    (on.0, on.1, c.self.invariant.2, c.self.invariant.3, c.self.invariant.4)

pub invariant_of-self-in-None : goal.invariant_of-self-in-None
invariant_of-self-in-None g c =
    let kinds = family_of g.B.Kinds.Kinds.start g.B.Kinds.Kinds.answer_of in
    let gone = gave kinds g.B.Kinds.Kinds.admits _ _ _ _ _ _ c.give-refused.ensures in
    let on = kept_on kinds g.B.Kinds.Kinds.admits g.E.EntryLedger.net g.E.EntryLedger.board _ _ _ _ _ _ _ _ c.self.invariant.0 c.self.invariant.1 gone c.publish.ensures.faithful c.publish.ensures.published (omega (arith, c.add_entries.ensures.book, gone.count, c.entries-before.ensures, c.entries.ensures)) in
    (on.0, on.1, c.self.invariant.2, c.self.invariant.3, c.self.invariant.4)

pub returns-in-Some : goal.returns-in-Some
returns-in-Some g c =
    let kinds = family_of g.B.Kinds.Kinds.start g.B.Kinds.Kinds.answer_of in
    let some = c.in-Some.ensures in
    let gone = gave kinds g.B.Kinds.Kinds.admits _ _ _ _ _ _ c.give-refused.ensures in
    let seat = c.add_entries.ensures.seat ∙ ap (λ k. record c.args.seat.now { entries = c.args.seat.now.entries + k }) (omega (arith, gone.count, c.entries-before.ensures, c.entries.ensures)) in
    record {
      exchanges = record {
        parts = ap (λ (s : Shares). s.parts) seat;
        entries = ap (λ (s : Shares). s.entries) seat;
        committed = tt;
        stranger = subst (λ (n : Network). WereCommitted kinds g.B.Kinds.Kinds.admits n c.args.hand.now.tasks c.give-refused.new.self.outcomes (c.in-Some.finished ∷ c.give-refused.new.self.tasks)) c.self.invariant.0.network some.committed;
        kept = (ap (λ (s : Shares). s.overs) seat, some.called);
        taken = tt;
        most = tt;
        tasks = λ is. absurd (cc);
        nothing = λ is. absurd (cc);
        found = λ is. absurd (cc);
        over = λ e is. absurd (cc);
        ended = λ e is. absurd (cc);
      };
      machine = tt;
      refused = rw (← c.self.view_is) some.machine;
      stands = λ e is. absurd (cc);
    }

pub returns-in-None : goal.returns-in-None
returns-in-None g c =
    let kinds = family_of g.B.Kinds.Kinds.start g.B.Kinds.Kinds.answer_of in
    let all = c.in-None.ensures in
    let dealt = c.deal.ensures in
    let gone = gave kinds g.B.Kinds.Kinds.admits _ _ _ _ _ _ c.give-refused.ensures in
    let seat = c.add_entries.ensures.seat ∙ ap (λ k. record c.args.seat.now { entries = c.args.seat.now.entries + k }) (omega (arith, gone.count, c.entries-before.ensures, c.entries.ensures)) in
    record {
      exchanges = record {
        parts = dealt.seat.0 ∙ ap (λ (s : Shares). s.parts) seat;
        entries = rw dealt.rest.1 (dealt.seat.1 ∙ ap (λ (s : Shares). s.entries) seat);
        committed = rw dealt.rest.1 (subst (λ (n : Network). WereCommitted kinds g.B.Kinds.Kinds.admits n c.args.hand.now.tasks c.give-refused.new.self.outcomes []) c.self.invariant.0.network all.committed);
        stranger = tt;
        kept = tt;
        taken = (dealt.deals.taken (subst (λ (n : Network). All (WasTaken kinds g.B.Kinds.Kinds.admits n) c.give-refused.new.self.tasks) c.self.invariant.0.network all.taken), dealt.rest.0);
        most = dealt.most;
        tasks = λ is. let t = dealt.tasks (cc) in (ap (λ (s : Shares). s.overs) t.0 ∙ ap (λ (s : Shares). s.overs) seat, t.1);
        nothing = λ is. let t = dealt.nothing (cc) in (ap (λ (s : Shares). s.overs) t.0 ∙ ap (λ (s : Shares). s.overs) seat, t.1);
        found = λ is. dealt.found (cc);
        over = λ e is. let t = dealt.over e (cc) in (ap (λ (s : Shares). s.overs) t.0, t.1);
        ended = λ e is. dealt.ended e (cc);
      };
      machine = (
        c.give-refused.new.machine,
        c.give-refused.new.self.tasks,
        dealt.deals.out.0,
        (
          dealt.deals.out.1,
          rw (← c.self.view_is, dealt.rest.1) all.goes_on,
          rw (← c.self.view_is, dealt.rest.1) all.ended,
          dealt.deals.out.2,
        ),
      );
      refused = tt;
      stands = λ e is. (dealt.over e (cc)).2;
    }
