-- What a run returns, and what its workers return.
use Rattle.std.specs.Prelude.{◌≡◌, ◌≢◌, ◌<◌, ℕ, Bool, false, length, slice_index_or, List, Option, Some}
use Rattle.std.specs.List.{sum_by}
use Rattle.kpn_model.specs.declared.history.End.{End}
use Rattle.kpn_model.specs.declared.history.End.TheVariants.{Budget}
use Rattle.kpn_model.specs.declared.history.Entry.{Entry}
use Rattle.kpn_model.specs.Network.{Family, Network, resized, Admits}
use Rattle.kpn_model.specs.Semantics.{State, IsRun}
use Rattle.kpn_model.specs.Endings.{IsFinal, MayEnd}
use Rattle.kpn_model.specs.Determinacy.{AreAllPrefixComparable}
use Rattle.kpn_model.specs.Moments.{IsWithin, AtEachMoment}
use Rattle.kpn_laws.specs.RoomOfRun.{TakesLeastRoom}
use Rattle.kpn_laws.specs.StreamsOfRun.{ApproachLeastSolution}
use Rattle.kpn_machine.specs.MachineView.{MachineView}
use Rattle.kpn_monitor.specs.Views.{ClosedView, Shares}
use Rattle.kpn_monitor.specs.Kept.{IsClosed}

-- a run that has ended: the closed machine, the receipts, and the end
pub record FinishView : Type 0 where
  pub machine : MachineView
  pub receipts : ℕ
  pub cause : End

-- the history is a run of this network, its end is justified, and there are as many entries as receipts
pub record IsFinish (kinds : Family) (net : Network) (f : FinishView) : Type 0 where
  pub network : f.machine.network ≡ net
  pub run : IsRun kinds net f.machine.history f.machine.state
  pub justified : MayEnd kinds net f.machine.history f.machine.state f.cause
  pub receipts : length f.machine.history ≡ f.receipts

-- after each prefix of the history no channel holds more tokens than its capacity
abbrev pub StaysWithinCapacities : Family → Network → List Entry → Type 0
StaysWithinCapacities kinds net history = AtEachMoment kinds net history IsWithin

-- if this history has fewer entries than the budget, this is not the end of a spent budget
abbrev pub IsSpared : Network → List Entry → End → Type 0
IsSpared net F cause = length F < net.budget → cause ≢ Budget

-- if some run that is over has fewer entries than the budget, the run did not end because of its budget
abbrev pub SparesBudget : Family → Network → End → Type 0
SparesBudget kinds net cause = (F : List Entry) (N : State) (b : End) → IsFinal kinds net F N b → IsSpared net F cause

-- the deeds and streams of this history and of any run of the other network are prefix-comparable
abbrev pub IsComparableWith : Family → Network → Network → List Entry → Type 0
IsComparableWith kinds net other history =
    (F : List Entry) (N : State) → IsRun kinds other F N → AreAllPrefixComparable net other history F

-- the deeds and streams of this history and of any run, from any starting capacities, are prefix-comparable
abbrev pub IsComparable : Family → Network → List Entry → Type 0
IsComparable kinds net history = (sizes : ℕ → ℕ) → IsComparableWith kinds net (resized net sizes) history

-- the streams of the machine's run approach the least solution
abbrev pub ApproachesSolution : Family → Network → MachineView → Type 0
ApproachesSolution kinds net s = ApproachLeastSolution kinds net s.history s.state

-- what holds of each run of this network, over or not
pub record KeepsLaws (kinds : Family) (net : Network) (s : MachineView) : Type 0 where
  pub within : StaysWithinCapacities kinds net s.history
  pub comparable : IsComparable kinds net s.history
  pub room : TakesLeastRoom kinds net s.history s.state
  pub streams : ApproachesSolution kinds net s

-- all that is promised of a run of this network that has ended
pub record IsFinishedRun (kinds : Family) (net : Network) (f : FinishView) : Type 0 where
  pub finish : IsFinish kinds net f
  pub budget : SparesBudget kinds net f.cause
  pub laws : KeepsLaws kinds net f.machine

-- a run that ended did not end because of its budget if some run that is over has fewer entries
abbrev pub EndSparesBudget : Family → Network → Option End → Type 0
EndSparesBudget kinds net end = (cause : End) → end ≡ Some cause → SparesBudget kinds net cause

-- all that is promised of a watched run of this network, over or not
pub record IsWatchedRun (kinds : Family) (admits : Admits) (net : Network) (a : ClosedView) : Type 0 where
  pub closed : IsClosed kinds admits net a
  pub budget : EndSparesBudget kinds net a.machine.end
  pub laws : KeepsLaws kinds net a.machine

-- a worker's slot: its seat, and whether an answer of the worker was refused
pub record AtSlot : Type 0 where
  pub seat : Shares
  pub refused : Bool

-- a worker with no answer refused has met an end
abbrev pub HasMet : AtSlot → Type 0
HasMet b = b.refused ≡ false → b.seat.overs ≡ 1

-- the closed monitor's run has ended, and this is what is left
abbrev pub IsFinishOf : ClosedView → FinishView → Type 0
IsFinishOf a f = (f.machine ≡ a.machine) × (f.receipts ≡ a.receipts) × (a.machine.end ≡ Some f.cause)

-- the parts of all seats
abbrev pub slot_parts : List AtSlot → ℕ
slot_parts slots = sum_by (λ (b : AtSlot). b.seat.parts) slots

-- each seat has as many parts as before
abbrev pub KeepParts : List AtSlot → List AtSlot → Type 0
KeepParts old new =
    (k : ℕ) (d : AtSlot) → k < length old → (slice_index_or new k d).seat.parts ≡ (slice_index_or old k d).seat.parts

-- so many workers have met an end, unless an answer was refused
abbrev pub HaveMet : ℕ → List AtSlot → Type 0
HaveMet count slots = (k : ℕ) (d : AtSlot) → k < count → HasMet (slice_index_or slots k d)
