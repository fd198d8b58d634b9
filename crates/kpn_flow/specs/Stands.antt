-- How a flow stands, without running it.
use Rattle.std.specs.Prelude.{◌≡◌, ◌⊎◌, ℕ, true, false, List}
use Rattle.std.specs.List.{list_any, list_all}
use Rattle.kpn_model.specs.Network.{Family, Network}
use Rattle.kpn_model.specs.Semantics.{State}
use Rattle.kpn_state.specs.declared.standing.Standing.{Standing}
use Rattle.kpn_state.specs.Standings.{is_busy}
use Rattle.kpn_flow.specs.declared.pause.Pause.{Pause}
use Rattle.kpn_flow.specs.declared.pause.Pause.TheVariants.{Cut}
use Rattle.kpn_flow.specs.Flows.{FlowView}
use Rattle.kpn_flow.specs.Pauses.{IsRest, NoneCanHelp}
use Rattle.kpn_flow.specs.Waits.{waits_to_read}

module _ (kinds : Family) (net : Network) (inputs outputs : List ℕ) (M : State) (standings : List Standing) where
  -- one waits for room, and neither feeding nor draining helps
  abbrev pub IsBeyondHelp : Type 0
  IsBeyondHelp = (list_all waits_to_read standings ≡ false) × NoneCanHelp kinds net inputs outputs M

  -- a process is ready; or one waits for room, and neither feeding nor draining helps
  abbrev pub MayGoOn : Type 0
  MayGoOn = (list_any is_busy standings ≡ true) ⊎ IsBeyondHelp

  abbrev pub IsStand : Pause → Type 0
  IsStand Cut = MayGoOn
  IsStand pause = IsRest kinds net inputs outputs M pause

-- how the flow stands
abbrev pub FlowStands : Family → FlowView → Pause → Type 0
FlowStands kinds s pause = IsStand kinds s.network s.unended s.outputs s.state s.standings pause
