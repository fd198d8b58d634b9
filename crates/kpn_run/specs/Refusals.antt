-- What a run that failed returns.
use Rattle.std.specs.Prelude.{◌≡◌, ◌≢◌, ◌<◌, ◌≤◌, ◌⊎◌, ⊤, ℕ, List, Result, Err, IfOk, IfErr, OnOk, length, map}
use Rattle.kpn_model.specs.declared.kinds.Card.{Card}
use Rattle.kpn_model.specs.Network.{Family, Network}
use Rattle.kpn_machine.specs.declared.machine.OpenRefused.{OpenRefused}
use Rattle.kpn_machine.specs.declared.opening.OpenFault.{OpenFault}
use Rattle.kpn_machine.specs.declared.opening.OpenFault.TheVariants.{Memory as NoMemory}
use Rattle.kpn_machine.specs.Opening.{cards_of, IsOpenFault}
use Rattle.kpn_monitor.specs.Views.{Unopened}
use Rattle.kpn_run.specs.Runs.{FinishView, IsFinishedRun}
use Rattle.kpn_run.specs.declared.fault.Failure.{Failure}
use Rattle.kpn_run.specs.declared.fault.Failure.TheVariants.{NotRun, Lost as Refused}
use Rattle.kpn_run.specs.declared.fault.RunFault.{RunFault}
use Rattle.kpn_run.specs.declared.fault.RunFault.TheVariants.{Workers, Open, Memory, Lost}

module _ {B K : Type 0} (card : B → Card) (net : Network) (bodies : List B) where
  -- this network and these bodies are returned, with the first fault; out of memory, other bodies with the same
  -- cards
  pub record IsHandedBack (refused : OpenRefused B K) : Type 0 where
    pub net_is : refused.net ≡ net
    pub cards_are : map card refused.bodies.items ≡ map card bodies
    pub bodies_are : refused.fault ≢ NoMemory → refused.bodies.items ≡ bodies
    pub applies : IsOpenFault net.processes (map card bodies) refused.fault

module _ {B K : Type 0} (card : B → Card) (net : Network) (bodies : List B) where
  -- a machine of this network with these bodies is opened and may be shared; or all is handed back
  pub record Opens (result : Result Unopened (OpenRefused B K)) : Type 0 where
    pub network : IfOk result (λ o. o.machine.network ≡ net)
    pub cards : OnOk result (map card bodies ≡ cards_of net.processes)
    pub refused : IfErr result (IsHandedBack card net bodies)

-- out of memory: a machine's network is returned, and bodies with its cards
pub record LacksMemory {B K : Type 0} (card : B → Card) (net : Network) (refused : OpenRefused B K) : Type 0 where
  pub net_is : refused.net ≡ net
  pub cards_are : map card refused.bodies.items ≡ cards_of net.processes
  pub fault_is : refused.fault ≡ NoMemory

-- the failure of a run of this network with these bodies
abbrev pub HandsBack : {B K : Type 0} → (B → Card) → Network → List B → Failure B K → Type 0
HandsBack card net bodies (NotRun refused) = IsHandedBack card net bodies refused
HandsBack card net bodies (Refused finished) = map card bodies ≡ cards_of net.processes

-- the failure of a run whose machine was opened
abbrev pub FailsOpened : {B K : Type 0} → (B → Card) → Network → Failure B K → Type 0
FailsOpened card net (NotRun refused) = LacksMemory card net refused
FailsOpened card net (Refused finished) = ⊤

module _ {B : Type 0} (card : B → Card) (net : Network) (bodies : List B) where
  -- the bodies have the cards of the processes
  abbrev pub HaveCards : Type 0
  HaveCards = map card bodies ≡ cards_of net.processes

  -- this is what is wrong with the bodies
  abbrev pub HasOpenFault : OpenFault → Type 0
  HasOpenFault fault = IsOpenFault net.processes (map card bodies) fault

  -- network and bodies come back unchanged, with what is wrong with them
  abbrev pub RefusesBodies : Network → List B → OpenFault → Type 0
  RefusesBodies n back fault = (n ≡ net) × (back ≡ bodies) × (fault ≢ NoMemory) × HasOpenFault fault

  -- the network comes back, and bodies with the right cards
  abbrev pub RunsOutOfMemory : Network → List B → Type 0
  RunsOutOfMemory n back = (n ≡ net) × (map card back ≡ map card bodies) × HaveCards

-- the fault of a run of this network with these bodies by so many workers
abbrev pub FailsRun : {B K : Type 0} → (B → Card) → Network → List B → ℕ → RunFault B K → Type 0
FailsRun card net bodies workers (Workers n back) = (n ≡ net) × (back.items ≡ bodies) × ((workers ≡ 0) ⊎ (16 < workers))
FailsRun card net bodies workers (Open n back fault) = RefusesBodies card net bodies n back.items fault
FailsRun card net bodies workers (Memory n back) = RunsOutOfMemory card net bodies n back.items
FailsRun card net bodies workers (Lost answered body) = HaveCards card net bodies × (card body ≡ answered.card)

module _ {B K : Type 0} (kinds : Family) (card : B → Card) (net : Network) (bodies : List B) (workers : ℕ) where
  -- a run of this network with these bodies by so many workers, or the fault that it failed with: `wrong` if no run has
  -- so many workers
  pub record Runs (wrong : RunFault B K) (result : Result FinishView (RunFault B K)) : Type 0 where
    pub run : IfOk result (IsFinishedRun kinds net)
    pub cards : OnOk result (map card bodies ≡ cards_of net.processes)
    pub many : (workers ≡ 0) ⊎ (16 < workers) → result ≡ Err wrong
    pub failed : IfErr result (FailsRun card net bodies workers)

module _ {X B K : Type 0} (promise : X → Type 0) (card : B → Card) (net : Network) (bodies : List B) where
  -- a run of this network with these bodies that keeps this promise, or its failure
  pub record RunsBodies (result : Result X (Failure B K)) : Type 0 where
    pub run : IfOk result promise
    pub cards : OnOk result (map card bodies ≡ cards_of net.processes)
    pub failed : IfErr result (HandsBack card net bodies)

module _ {B K : Type 0} (kinds : Family) (card : B → Card) (net : Network) (bodies : List B) where
  -- a run of this network with these bodies that ends, or its failure
  abbrev pub FinishesBodies : Result FinishView (Failure B K) → Type 0
  FinishesBodies result = RunsBodies (IsFinishedRun kinds net) card net bodies result

-- the fault that this failure is, whatever the network, the bodies and the number of workers
abbrev pub IsFaultOfFailure : {B K L : Type 0} → (B → Card) → Failure B K → RunFault B L → Type 0
IsFaultOfFailure {B} card failure fault =
    (net : Network) (bodies : List B) (workers : ℕ)
    → HandsBack card net bodies failure → FailsRun card net bodies workers fault

-- the bodies of a failure to run are at most so many
abbrev pub RefusedFit : {B K : Type 0} → Failure B K → ℕ → Type 0
RefusedFit {B} {K} failure capacity =
    (refused : OpenRefused B K) → failure ≡ NotRun refused → length refused.bodies.items ≤ capacity
