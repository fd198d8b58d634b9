-- The fault of a watched run.
use Rattle.std.specs.Prelude.{◌≡◌, ◌<◌, ◌⊎◌, ℕ, List, Result, Err, IfOk, IfErr, OnOk, map}
use Rattle.kpn_model.specs.declared.kinds.Card.{Card}
use Rattle.kpn_model.specs.declared.kinds.Kinds.{Ghosts as KindsOf}
use Rattle.kpn_model.specs.Families.{family}
use Rattle.kpn_model.specs.Network.{Admits, Family, Network}
use Rattle.kpn_machine.specs.Opening.{cards_of}
use Rattle.kpn_monitor.specs.Views.{ClosedView}
use Rattle.kpn_run.specs.declared.fault.Failure.{Failure}
use Rattle.kpn_run.specs.declared.fault.RunFault.{RunFault}
use Rattle.kpn_run.specs.declared.fault.RunFault.TheVariants.{Workers}
use Rattle.kpn_run.specs.Runs.{IsWatchedRun}
use Rattle.kpn_run.specs.Refusals.{FailsRun, RunsBodies}
use Rattle.kpn_observe.specs.declared.running.WatchedFault.{WatchedFault}
use Rattle.kpn_observe.specs.declared.running.WatchedFault.TheVariants.{Stopped, Failed}

module _ {B K : Type 0} (card : B → Card) (net : Network) (bodies : List B) (workers : ℕ) where
  -- the fault of a watched run of this network with these bodies by so many workers: `at_once` if stopped at once
  abbrev pub FailsWatched : WatchedFault B K → WatchedFault B K → Type 0
  FailsWatched at_once (Stopped n back) = Stopped n back ≡ at_once
  FailsWatched at_once (Failed fault) = FailsRun card net bodies workers fault

module _ {B K : Type 0} (kinds : Family) (admits : Admits) (card : B → Card) where
  module _ (net : Network) (bodies : List B) (workers : ℕ) (wrong : RunFault B K) where
    -- a watched run of this network with these bodies by so many workers, or the fault that it failed with: `wrong` if
    -- no run has so many workers
    pub record RunsWatched (at_once : WatchedFault B K) (result : Result ClosedView (WatchedFault B K)) : Type 0 where
      pub run : IfOk result (IsWatchedRun kinds admits net)
      pub cards : OnOk result (map card bodies ≡ cards_of net.processes)
      pub many : (workers ≡ 0) ⊎ (16 < workers) → result ≡ Err (Failed wrong)
      pub failed : IfErr result (FailsWatched card net bodies workers at_once)

-- the fault of too many workers or none that hands back what this one does
abbrev pub wrong_of : {B K : Type 0} → WatchedFault B K → RunFault B K
wrong_of (Stopped n back) = Workers n back
wrong_of (Failed fault) = fault

module _ {X B K : Type 0} (kinds : KindsOf X) (card : B → Card) (net : Network) (bodies : List B) where
  -- a watched run of these bodies by so many workers, or its fault
  abbrev pub WatchesRun : ℕ → WatchedFault B K → Result ClosedView (WatchedFault B K) → Type 0
  WatchesRun workers at_once result =
      RunsWatched (family kinds) kinds.admits card net bodies workers (wrong_of at_once) at_once result

  -- a watched run of these bodies, or its failure
  abbrev pub WatchesBodies : Result ClosedView (Failure B K) → Type 0
  WatchesBodies result = RunsBodies (IsWatchedRun (family kinds) kinds.admits net) card net bodies result
