-- The machine is one of this network.
use Rattle.std.proofs.Common.{◌∙◌, ◌≡◌, Err, rules}
use Rattle.kpn_run.proofs.Refusals.{for_memory}
use Rattle.kpn_observe.proofs.WatchedRuns.{told}
use Rattle.kpn_observe.proofs.crew.run_by_crew.Goals as goal

pub returns-clause-run : goal.returns-clause-run
returns-clause-run g c = told _ _ _ _ (c.in_ok-ran.ensures.closed.network ∙ c.in_ok-opening.ensures.network) c.told_by_laws.ensures

pub returns-in_err-ran-clause-refused : goal.returns-in_err-ran-clause-refused
returns-in_err-ran-clause-refused g c =
    let same : c.from_residual-in_err-ran.result ≡ Err c.in_err-ran.field-0.0 = search rules in
    rw same (for_memory g.B.Body.card c.args.net c.args.bodies.items _ c.in_err-ran.field-0.0 c.in_ok-opening.ensures.cards c.in_ok-opening.ensures.network c.in_err-ran.ensures.refused)
