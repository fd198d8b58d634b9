-- The run is one of this network, whose machine was opened; the laws are told of what its machine left.
use Rattle.std.proofs.Common.{◌∙◌, ◌≡◌, Err, rules, subst}
use Rattle.kpn_model.specs.Network.{Network}
use Rattle.kpn_model.specs.Families.{family}
use Rattle.kpn_run.specs.Runs.{IsFinishedRun}
use Rattle.kpn_run.proofs.Refusals.{opened_back}
use Rattle.kpn_run.proofs.running.run_bodies.Goals as goal

pub returns : goal.returns
returns g c =
    let kinds = family g.B.Kinds.Kinds in
    let told = rw c.deref.ensures.0 at c.told_by_laws.ensures in
    let machine = c.in_ok-finish.finish.machine in
    let own : IsFinishedRun kinds machine.network c.in_ok-finish.finish = record { finish = c.end.ensures.finish; budget = told.budget c.in_ok-finish.finish.cause c.end.ensures.stands; laws = told.laws } in
    record {
      run = subst (λ (n : Network). IsFinishedRun kinds n c.in_ok-finish.finish) (c.in_ok-finish.ensures.finish.network ∙ c.in-Ok.ensures.network) own;
      cards = search rules;
      failed = search rules;
    }

pub returns-in_err-finish : goal.returns-in_err-finish
returns-in_err-finish g c =
    let same : c.from_residual.result ≡ Err c.in_err-finish.field-0.0 = search rules in
    record { run = search rules; cards = search rules; failed = rw same (opened_back g.B.Body.card c.args.request.net c.args.request.bodies.items _ c.in_err-finish.field-0.0 c.in-Ok.ensures.cards c.in-Ok.ensures.network c.in_err-finish.ensures.failed) }
