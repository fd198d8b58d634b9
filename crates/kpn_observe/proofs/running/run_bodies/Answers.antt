-- The run is one of this network, whose machine was opened.
use Rattle.std.proofs.Common.{◌∙◌, ◌≡◌, Err, rules, subst}
use Rattle.kpn_model.specs.Network.{Network}
use Rattle.kpn_model.specs.Families.{family}
use Rattle.kpn_run.specs.Runs.{IsWatchedRun}
use Rattle.kpn_run.proofs.Refusals.{opened_back}
use Rattle.kpn_observe.proofs.running.run_bodies.Goals as goal

pub returns : goal.returns
returns g c = record {
  run = subst (λ (n : Network). IsWatchedRun (family g.B.Kinds.Kinds) g.B.Kinds.Kinds.admits n c.in_ok-ran.ran) (c.in_ok-ran.ensures.closed.network ∙ c.in-Ok.ensures.network) c.told_by_laws.ensures;
  cards = search rules;
  failed = search rules;
}

pub returns-in_err-ran : goal.returns-in_err-ran
returns-in_err-ran g c =
    let same : c.from_residual.result ≡ Err c.in_err-ran.field-0.0 = search rules in
    record { run = search rules; cards = search rules; failed = rw same (opened_back g.B.Body.card c.args.request.net c.args.request.bodies.items _ c.in_err-ran.field-0.0 c.in-Ok.ensures.cards c.in-Ok.ensures.network c.in_err-ran.ensures.failed) }
