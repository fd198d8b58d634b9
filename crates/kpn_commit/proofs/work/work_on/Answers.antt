-- A read or a write, with the deed that it enables, after which the run goes on.
use Rattle.std.proofs.Common.{◌<◌, ◌+◌, arith, length, refl, set}
use Rattle.kpn_model.specs.Network.{family_of}
use Rattle.kpn_state.specs.declared.standing.Standing.TheVariants.{Ready}
use Rattle.kpn_state.proofs.Placed.{standing_set_same, busy_at}
use Rattle.kpn_commit.specs.declared.resolution.Resolution.TheVariants.{Busy}
use Rattle.kpn_commit.proofs.Working.{not_spent, reaction_few}
use Rattle.kpn_commit.proofs.work.work_on.Goals as goal

pub returns-clause-works : goal.returns-clause-works
returns-clause-works g c =
    let reacts = c.in_ok-reaction.ensures.reacts.reacts in
    let s = c.args.core.now.store in
    let l = c.react_on.new.core.standings in
    let p = c.args.process in
    let there : p < length l = omega (arith, c.requires.process, c.react_on.ensures.standing.many) in
    let left : length s.history + 2 < c.args.net.now.budget = omega (arith, c.if-budget-saturating_add.false, c.saturating_add.ensures, c.budget.ensures, c.entries-entries.ensures) in
    record {
      reaction = c.in_ok-reaction.reaction;
      between = c.react_on.new.core.store;
      standings_between = set l p Ready;
      reacts = reacts;
      resolution = Busy;
      resolves = (busy_at (set l p Ready) p (rw (standing_set_same l p Ready there) refl), refl, refl);
      outcome_is = c.outcome_of.ensures;
      end_is = not_spent c.args.net.now.budget (length s.history) (length c.react_on.new.core.store.history) (reaction_few (family_of g.K.Kinds.start g.K.Kinds.answer_of) c.args.net.now s c.args.core.now.standings p c.args.answer c.in_ok-reaction.reaction c.react_on.new.core.store (set l p Ready) reacts) left;
    }
