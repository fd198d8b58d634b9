-- Rounds follow rounds; they go on with the run, and leave out those that were out.
use Rattle.std.proofs.Common.{◌≡◌, ◌++◌, ◌∙◌, None, arith, length-append}
use Rattle.kpn_model.specs.Network.{family_of}
use Rattle.kpn_machine.proofs.Rounds.{rounds_go, rounds_both, rounds_commits, rounds_keep_out, rounds_none}
use Rattle.kpn_machine.proofs.machine.Machine.ask_in_place.Goals.{else-loop-self-test, then-loop-self-test+then-asked-eq0}
use Rattle.kpn_machine.proofs.machine.Machine.ask_in_place.Goals as goal

pub loop-self-preserved : goal.loop-self-preserved
loop-self-preserved g c =
    let kinds = family_of g.B.Kinds.Kinds.start g.B.Kinds.Kinds.answer_of in
    let before = c.loop-self.invariant in
    let more = c.go_on-asked.ensures.rounds in
    let counted = rounds_commits kinds _ _ more.0 more.2 in
    let none : c.loop-self.self.end ≡ None = grind arith in
    record {
      rounds = (
        before.rounds.0 ++ more.0,
        omega (arith, before.rounds.1, more.1, length-append before.rounds.0 more.0),
        rounds_both kinds _ _ _ before.rounds.0 more.0 before.rounds.2 more.2,
      );
      goes = rounds_go kinds _ _ _ more.0 more.2 before.goes;
      commits = omega (arith, counted, more.1, before.commits);
      few = omega (arith, before.few, c.go_on-asked.ensures.few);
      out = λ p. let out = rounds_keep_out kinds _ _ more.0 more.2 p in (λ is. (before.out p).0 (out.0 is), λ was. out.1 ((before.out p).1 was));
      ended = λ some. absurd (some (rw (before.none (before.ended some)) at none));
      none = λ zero. absurd (omega (arith, zero, c.if-asked-eq0.false));
    }

pub returns-clause-most : goal.returns-clause-most
returns-clause-most g c = c.loop-self.invariant.few

pub returns-clause-ended : goal.returns-clause-ended
returns-clause-ended g c = c.loop-self.invariant.ended

pub returns-clause-none : goal.returns-clause-none
returns-clause-none g c = λ zero.
    elim c.loop-self-test.branch [
      | else-loop-self-test w ↦ w.self-is ∙ c.loop-self.invariant.none zero
      | then-loop-self-test+then-asked-eq0 w ↦
          let rounds = w.go_on-asked.ensures.rounds in
          w.self-is ∙ rounds_none (family_of g.B.Kinds.Kinds.start g.B.Kinds.Kinds.answer_of) _ _ rounds.0 (rounds.1 ∙ w.if-asked-eq0.true) rounds.2 ∙ c.loop-self.invariant.none zero
    ]
