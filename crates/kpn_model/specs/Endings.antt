-- How runs end.
use Rattle.std.specs.Prelude.{◌≡◌, ◌≢◌, ℕ, ◌+◌, ◌<◌, ◌≤◌, List, Option, Some, None, length}
use Rattle.kpn_model.specs.declared.history.Entry.{Entry}
use Rattle.kpn_model.specs.declared.history.End.{End}
use Rattle.kpn_model.specs.declared.history.End.TheVariants.{Terminated, Deadlock, Ceiling, Budget, Memory}
use Rattle.kpn_model.specs.declared.history.Status.TheVariants.{Done}
use Rattle.kpn_model.specs.Network.{Family, Network}
use Rattle.kpn_model.specs.Semantics.{State, status, capacity, IsQuiet, IsBlocked, IsArtificial, IsChosen, Grows, IsRun}

pub record CanGrow (kinds : Family) (net : Network) (M : State) : Type 0 where
  pub channel : ℕ
  pub to : ℕ
  pub next : State
  pub grows : Grows kinds net M channel to next

-- some process has not stopped
abbrev pub SomeIsLive : State → Type 0
SomeIsLive M = (p : ℕ) × (status M p ≢ Done)

-- no process wants to write to a full channel
abbrev pub NoneIsBlocked : Family → Network → State → Type 0
NoneIsBlocked kinds net M = (p c : ℕ) → IsBlocked kinds net M p c → ⊥

-- the channel that would grow is as large as the ceiling
abbrev pub ChosenIsAtCeiling : Family → Network → State → Type 0
ChosenIsAtCeiling kinds net M = (c : ℕ) × IsChosen kinds net M c × (capacity M c ≡ net.ceiling)

-- nothing can happen any more, for this cause
abbrev pub IsOver : Family → Network → State → End → Type 0
IsOver kinds net M Terminated = IsQuiet kinds net M × ((p : ℕ) → status M p ≡ Done)
IsOver kinds net M Deadlock = IsQuiet kinds net M × SomeIsLive M × NoneIsBlocked kinds net M
IsOver kinds net M Ceiling = IsArtificial kinds net M × ChosenIsAtCeiling kinds net M
IsOver kinds net M Budget = ⊥
IsOver kinds net M Memory = ⊥

-- the run E leads from the start to M, which is over for this cause
pub record IsFinal (kinds : Family) (net : Network) (E : List Entry) (M : State) (cause : End) : Type 0 where
  pub run : IsRun kinds net E M
  pub over : IsOver kinds net M cause

-- the run is over, or out of memory for a growth that is due
abbrev pub NothingGoesOn : Family → Network → State → End → Type 0
NothingGoesOn kinds net M Memory = CanGrow kinds net M
NothingGoesOn kinds net M end = IsOver kinds net M end

-- how the run E from the start to M may end
abbrev pub MayEnd : Family → Network → List Entry → State → End → Type 0
MayEnd kinds net E M Budget = (net.budget ≤ length E) × (length E ≤ net.budget + 2)
MayEnd kinds net E M end = NothingGoesOn kinds net M end

-- the run may have this end, or, within its budget, none yet
abbrev pub MayStand : Family → Network → List Entry → State → Option End → Type 0
MayStand kinds net E M None = length E < net.budget
MayStand kinds net E M (Some end) = MayEnd kinds net E M end

-- the end does not depend on the capacities
abbrev pub IsNatural : End → Type 0
IsNatural Terminated = Unit {0}
IsNatural Deadlock = Unit {0}
IsNatural _ = ⊥
