-- What a watched run says of its network.
use Rattle.std.proofs.Common.{◌≡◌, subst}
use Rattle.kpn_model.specs.Network.{Family, Network, Admits}
use Rattle.kpn_monitor.specs.Views.{ClosedView}
use Rattle.kpn_run.specs.Runs.{IsWatchedRun}

-- a run of its machine's network, which is this one
pub told : (kinds : Family) (admits : Admits) (net : Network) (r : ClosedView) → r.machine.network ≡ net → IsWatchedRun kinds admits r.machine.network r → IsWatchedRun kinds admits net r
told kinds admits net r is run = subst (λ (n : Network). IsWatchedRun kinds admits n r) is run
