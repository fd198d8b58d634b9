-- What a report says of other runs.
use Rattle.std.specs.Prelude.{◌≡◌, ℕ, true, List, [], length, Option, Some, get_or}
use Rattle.kpn_model.specs.declared.history.End.{End}
use Rattle.kpn_model.specs.declared.history.Entry.{Entry}
use Rattle.kpn_model.specs.Network.{Family, Network, resized}
use Rattle.kpn_model.specs.Semantics.{State, wants}
use Rattle.kpn_model.specs.History.{deeds, stream, place_of, each_process, each_channel, digest}
use Rattle.kpn_model.specs.Endings.{IsFinal, IsNatural}
use Rattle.kpn_model.specs.texts.Reports.{has_report}
use Rattle.kpn_laws.specs.Alone.{Streams, BeginsWith}
use Rattle.kpn_laws.specs.Equations.{listed, Obeys, IsLeastSolution}
use Rattle.kpn_report.specs.declared.detail.Detail.{Detail}
use Rattle.kpn_machine.specs.MachineView.{MachineView}
use Rattle.kpn_report.specs.Reported.{digest_with, IsReport}
use Rattle.kpn_run.specs.Runs.{FinishView}

-- the detail is the digest of the run F to N that ended for the cause b
abbrev pub TellsDigest : Family → Network → End → Option Detail → List Entry → State → End → Type 0
TellsDigest kinds net cause detail F N b =
    (d : Detail) × (detail ≡ Some d) × (digest_with cause d ≡ digest kinds net b F N)

-- it is that of every run of the network that is over
abbrev pub IsOfEveryRun : Family → Network → End → Option Detail → Type 0
IsOfEveryRun kinds net cause detail =
    (F : List Entry) (N : State) (b : End) → IsFinal kinds net F N b → TellsDigest kinds net cause detail F N b

-- the end and the detail are those of every run of the network that is over
abbrev pub IsEveryRuns : Family → Network → End → Option Detail → Type 0
IsEveryRuns kinds net cause detail = has_report cause ≡ true → IsOfEveryRun kinds net cause detail

module _ (kinds : Family) (net other : Network) (history F : List Entry) where
  -- the history has the deeds of the run F of another network to N, and the detail its places, steps and
  -- streams
  pub record HasOutcome (N : State) (d : Detail) : Type 0 where
    pub deeds_same : (p : ℕ) → deeds history p ≡ deeds F p
    pub places : d.places ≡ each_process net (λ p. place_of other p (wants kinds other N p))
    pub steps : d.steps ≡ each_process net (λ p. length (deeds F p))
    pub streams : d.streams ≡ each_channel net (λ c. stream other F c)

-- every run of the other network that terminates or deadlocks has the same outcome
abbrev pub SharesOutcome : Family → Network → Network → List Entry → Option Detail → Type 0
SharesOutcome kinds net other history detail =
    (F : List Entry) (N : State) (b : End) → IsFinal kinds other F N b → IsNatural b
    → (d : Detail) × (detail ≡ Some d) × HasOutcome kinds net other history F N d

-- if the run terminated or deadlocked, every run that does so, from any starting capacities, has the same
-- outcome
abbrev pub IsOutcome : Family → Network → End → List Entry → Option Detail → Type 0
IsOutcome kinds net cause history detail =
    IsNatural cause → (sizes : ℕ → ℕ) → SharesOutcome kinds net (resized net sizes) history detail

-- in each solution each stream begins with the detail's; if the run terminated or deadlocked, the detail's
-- streams are the least solution
pub record HasLeastStreams (kinds : Family) (net : Network) (cause : End) (d : Detail) : Type 0 where
  pub below : (T : Streams) → Obeys kinds net T → (c : ℕ) → BeginsWith (T c) (get_or d.streams c [])
  pub least : IsNatural cause → IsLeastSolution kinds net (listed d.streams)

-- there is a detail, and it has such streams
abbrev pub HasLeastDetail : Family → Network → End → Option Detail → Type 0
HasLeastDetail kinds net cause detail = (d : Detail) × (detail ≡ Some d) × HasLeastStreams kinds net cause d

-- if the run is over, there is a detail, and it has such streams
abbrev pub TellsLeastSolution : Family → Network → End → Option Detail → Type 0
TellsLeastSolution kinds net cause detail = has_report cause ≡ true → HasLeastDetail kinds net cause detail

-- this end and detail are the report of a machine that ended for this cause, and so of every run of its
-- network that is over
pub record IsReportOf (kinds : Family) (s : MachineView) (cause end : End) (detail : Option Detail) : Type 0 where
  pub end_is : end ≡ cause
  pub own : IsReport kinds s.network cause s.history s.state detail
  pub every : IsEveryRuns kinds s.network cause detail
  pub any_capacities : IsOutcome kinds s.network cause s.history detail
  pub streams : TellsLeastSolution kinds s.network cause detail

-- what the detail of a run that has ended tells of the run itself
abbrev pub TellsOwn : Family → FinishView → Option Detail → Type 0
TellsOwn kinds f detail = IsReport kinds f.machine.network f.cause f.machine.history f.machine.state detail

-- of every run of the network that is over
abbrev pub TellsEvery : Family → FinishView → Option Detail → Type 0
TellsEvery kinds f detail = IsEveryRuns kinds f.machine.network f.cause detail

-- of runs from any starting capacities
abbrev pub TellsAnyCapacities : Family → FinishView → Option Detail → Type 0
TellsAnyCapacities kinds f detail = IsOutcome kinds f.machine.network f.cause f.machine.history detail

-- and of the least solution
abbrev pub TellsLeast : Family → FinishView → Option Detail → Type 0
TellsLeast kinds f detail = TellsLeastSolution kinds f.machine.network f.cause detail
