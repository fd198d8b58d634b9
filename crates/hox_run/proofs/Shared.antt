-- Why a run that several workers may share has no result.
use Rattle.std.proofs.Common.{◌≡◌, ◌<◌, ◌≤◌, ℕ, List, map, Result, Err, inl, inr, arith}
use Rattle.kpn_model.specs.declared.kinds.Card.{Card}
use Rattle.kpn_model.specs.Network.{Admits, Family, Network}
use Rattle.kpn_machine.specs.Opening.{cards_of}
use Rattle.kpn_run.specs.declared.fault.RunFault.{RunFault}
use Rattle.kpn_run.specs.declared.fault.RunFault.TheVariants.{Workers, Open, Memory, Lost}
use Rattle.kpn_run.specs.Refusals.{FailsRun, Runs}
use Rattle.kpn_run.specs.Runs.{FinishView}
use Rattle.kpn_observe.specs.declared.running.WatchedFault.{WatchedFault}
use Rattle.kpn_observe.specs.declared.running.WatchedFault.TheVariants.{Failed}
use Rattle.kpn_observe.specs.WatchedFaults.{RunsWatched}
use Rattle.kpn_execute.proofs.Telling.{not_refused}
use Rattle.kpn_tokens.specs.declared.layouts.Layout.{Layout}
use Rattle.hox_run.specs.declared.shown.ChannelAs.{ChannelAs}
use Rattle.hox_run.specs.Telling.{IsOfRun, MayShareRun}

-- the bodies fit, and the number of workers is one that may run a network
of_fault : {B K : Type 0} (card : B → Card) (net : Network) (bodies : List B) (n : ℕ) (fault : RunFault B K) → map card bodies ≡ cards_of net.processes → (1 < n) × (n ≤ 16) → FailsRun card net bodies n fault → IsOfRun fault
of_fault card net bodies n (Workers back given) fits few fails = elim fails.2 [ inl none ↦ omega (arith, none, few.0) | inr many ↦ omega (arith, many, few.1) ]
of_fault card net bodies n (Open back given fault) fits few fails = not_refused net.processes (map card bodies) fault fits fails.2 fails.3
of_fault card net bodies n (Memory back given) fits few fails = tt
of_fault card net bodies n (Lost answered body) fits few fails = tt

module _ {B K : Type 0} {kinds : Family} {card : B → Card} {net : Network} {bodies : List B} {n wanted : ℕ} {wrong : RunFault B K} (fault : RunFault B K) (outputs : List (ChannelAs Layout)) where
  pub of_run : {result : Result FinishView (RunFault B K)} → Runs kinds card net bodies n wrong result → result ≡ Err fault → (1 < n) × (n ≤ 16) → MayShareRun net (map card bodies) wanted outputs → IsOfRun fault
  of_run runs is few may = of_fault card net bodies n fault may.cards few (rw is at runs.failed)

  pub of_watched_run :
      {admits : Admits} {at_once : WatchedFault B K} {result : Result _ (WatchedFault B K)} → RunsWatched kinds admits card net bodies n wrong at_once result → result ≡ Err (Failed fault)
      → (1 < n) × (n ≤ 16) → MayShareRun net (map card bodies) wanted outputs → IsOfRun fault
  of_watched_run runs is few may = of_fault card net bodies n fault may.cards few (rw is at runs.failed)
