-- How a flow stands, by the standings of its processes.
use Rattle.std.proofs.Common.{◌≡◌, ℕ, true, false, List}
use Rattle.std.specs.List.{list_any, list_all}
use Rattle.kpn_model.specs.declared.history.End.TheVariants.{Terminated, Deadlock}
use Rattle.kpn_model.specs.Network.{Network, Family, Admits}
use Rattle.kpn_model.specs.Semantics.{State}
use Rattle.kpn_state.specs.declared.standing.Standing.{Standing}
use Rattle.kpn_state.specs.Standings.{is_busy, has_stopped, StandingsFit}
use Rattle.std.specs.Prelude.{None}
use Rattle.kpn_commit.proofs.Idle.{idle_quiet, all_done, some_live}
use Rattle.kpn_flow.specs.declared.pause.Pause.{Pause}
use Rattle.kpn_flow.specs.declared.pause.Pause.TheVariants.{Cut, Starved, Blocked, Over}
use Rattle.kpn_flow.specs.Pauses.{IsRest, NoneCanHelp}
use Rattle.kpn_flow.specs.Stands.{IsStand}
use Rattle.kpn_flow.specs.Waits.{waits_to_read}
use Rattle.kpn_flow.proofs.Waiting.{exhausted}

module _ (kinds : Family) (admits : Admits) (net : Network) (inputs outputs : List ℕ) (M : State) (standings : List Standing) (k : StandingsFit kinds admits net None M standings) where
  -- a flow at rest stands so
  pub rest_stands : (pause : Pause) → IsRest kinds net inputs outputs M pause → IsStand kinds net inputs outputs M standings pause
  rest_stands Cut e = absurd e
  rest_stands Starved e = e
  rest_stands Blocked e = e
  rest_stands (Over end) e = e

  module _ (idle : list_any is_busy standings ≡ false) (help : NoneCanHelp kinds net inputs outputs M) where
    pub terminated_stands : list_all has_stopped standings ≡ true → IsStand kinds net inputs outputs M standings (Over Terminated)
    terminated_stands e = ((idle_quiet k idle, all_done k e), help)

    pub deadlock_stands : list_all has_stopped standings ≡ false → list_all waits_to_read standings ≡ true → IsStand kinds net inputs outputs M standings (Over Deadlock)
    deadlock_stands e f = ((idle_quiet k idle, some_live k e, (exhausted kinds admits net M standings k f).none_blocked), help)
