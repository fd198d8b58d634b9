-- What the answer appended is published and booked.
use Rattle.std.proofs.lemmas.Grind.{common_steps}
use Rattle.std.proofs.Common.{◌∙◌, ◌+◌, ap, subst, arith}
use Rattle.kpn_model.specs.Network.{Network, family_of}
use Rattle.kpn_monitor.specs.Kept.{WasCommitted}
use Rattle.kpn_monitor.proofs.Handing.{kept_on, shows_on, stays_shown, went_on_once}
use Rattle.kpn_monitor.proofs.guarded.Guarded.commit.Goals as goal

pub publish-requires-clause-goes_on : goal.publish-requires-clause-goes_on
publish-requires-clause-goes_on g c κs within =
    let given = c.give_one-outcome.ensures in
    shows_on g.E.EntryLedger.board c.self.inside.machine c.self.inside.publisher c.give_one-outcome.new.machine _ c.self.invariant.1 (went_on_once (family_of g.B.Kinds.Kinds.start g.B.Kinds.Kinds.answer_of) _ _ c.give_one-outcome.result _ given.commits given.appends)

pub publish-requires-clause-ended : goal.publish-requires-clause-ended
publish-requires-clause-ended g c κs within =
    let given = c.give_one-outcome.ensures in
    stays_shown g.E.EntryLedger.board c.self.inside.machine c.self.inside.publisher c.give_one-outcome.new.machine _ c.self.invariant.1 (went_on_once (family_of g.B.Kinds.Kinds.start g.B.Kinds.Kinds.answer_of) _ _ c.give_one-outcome.result _ given.commits given.appends)

pub invariant_of-self : goal.invariant_of-self
invariant_of-self g c =
    let kinds = family_of g.B.Kinds.Kinds.start g.B.Kinds.Kinds.answer_of in
    let given = c.give_one-outcome.ensures in
    let gone = went_on_once kinds c.self.inside.machine c.args.finished c.give_one-outcome.result c.give_one-outcome.new.machine given.commits given.appends in
    let on = kept_on kinds g.B.Kinds.Kinds.admits g.E.EntryLedger.net g.E.EntryLedger.board _ _ _ _ _ _ _ _ c.self.invariant.0 c.self.invariant.1 gone c.publish.ensures.faithful c.publish.ensures.published (omega (arith, c.add_entries.ensures.book, c.count_of.ensures)) in
    (on.0, on.1, c.self.invariant.2, c.self.invariant.3, c.self.invariant.4)

pub returns : goal.returns
returns g c = record {
  commits = rw (← c.self.view_is) c.give_one-outcome.ensures.commits;
  appends = rw (← c.self.view_is) c.give_one-outcome.ensures.appends;
  seat = c.add_entries.ensures.seat ∙ ap (λ k. record c.args.seat.now { entries = c.args.seat.now.entries + k }) c.count_of.ensures;
  committed = subst (λ (n : Network). WasCommitted (family_of g.B.Kinds.Kinds.start g.B.Kinds.Kinds.answer_of) g.B.Kinds.Kinds.admits n c.args.finished c.give_one-outcome.result) c.self.invariant.0.network c.give_one-outcome.ensures.committed;
}

pub add_entries-requires : goal.add_entries-requires
add_entries-requires g c = grind (arith, common_steps)
