-- What contracts see of the monitor's types.
use Rattle.std.specs.Prelude.{◌≡◌, ℕ, ◌-◌, ◌<◌, List, []}
use Rattle.std.specs.List.{sum_by}
use Rattle.std.specs.declared.sync.ledger.Ledger.{Ghosts as LedgerNames}
use Rattle.atomic_table.specs.Seated.{TableId}
use Rattle.kpn_model.specs.Network.{Network}
use Rattle.kpn_body.specs.Input.{Input}
use Rattle.kpn_commit.specs.declared.outcome.Outcome.{Outcome}
use Rattle.kpn_machine.specs.MachineView.{MachineView}
use Rattle.kpn_watch.specs.declared.progress.Phase.TheVariants.{Running}
use Rattle.kpn_watch.specs.Boards.{Published}

-- a seat: its parts, and its share of each ledger
pub record Shares : Type 0 where
  pub parts : ℕ
  pub entries : ℕ
  pub overs : ℕ

-- a ledger: its name and parts
pub record LedgerOf : Type 0 where
  pub name : ℕ
  pub parts : ℕ

-- an opening
pub record Unopened : Type 0 where
  pub machine : MachineView
  pub board : TableId
  pub entries : LedgerOf
  pub overs : LedgerOf

-- what the type of an entry ledger names
abbrev pub RunNames : Type 0
RunNames = record { name : ℕ; parts : ℕ; net : Network; board : TableId }

-- these are the names of the opening's network, board and ledgers
pub record AreNamesOf {O : Type 0} (run : RunNames) (overs : LedgerNames O) (opening : Unopened) : Type 0 where
  pub network : opening.machine.network ≡ run.net
  pub board : opening.board ≡ run.board
  pub entries : (opening.entries.name ≡ run.name) × (opening.entries.parts ≡ run.parts)
  pub overs_are : (opening.overs.name ≡ overs.name) × (opening.overs.parts ≡ overs.parts)

-- a closed monitor, and a watched run
pub record ClosedView : Type 0 where
  pub machine : MachineView
  pub receipts : ℕ

-- what the lock guards: the machine, how often an end was met, and how many watchers were made
pub record UnderLock : Type 0 where
  pub machine : MachineView
  pub overs : ℕ
  pub watchers : ℕ

-- a hand: its tasks, in the order taken; how many, from the first, were called; and the last outcomes
pub record Holding : Type 0 where
  pub tasks : List Input
  pub called : ℕ
  pub outcomes : List Outcome

-- the places of a hand: the tasks that went out again; those with answers not given, and how many of them
-- were called; how many answers were given, and their outcomes
pub record Placed : Type 0 where
  pub again : List Input
  pub tasks : List Input
  pub called : ℕ
  pub given : ℕ
  pub outcomes : List Outcome

-- the publisher of this board before it publishes
abbrev pub new_publisher : TableId → Published
new_publisher board = record { board = board; entries = []; phase = Running; watchers = 0 }

-- the opening of this machine, with ledgers of all parts
abbrev pub IsOpeningOf : MachineView → Unopened → Type 0
IsOpeningOf machine o = (o.machine ≡ machine) × (o.entries.parts ≡ 65536) × (o.overs.parts ≡ 65536)

-- these are the name and the parts, all of them, of the ledger
abbrev pub AreOfLedger : ℕ → ℕ → LedgerOf → Type 0
AreOfLedger name parts ledger = (name ≡ ledger.name) × (parts ≡ ledger.parts) × (parts ≡ 65536)

-- two empty shares, of entries and of overs, have so many parts
abbrev pub AreEmptyShares : ℕ → ℕ → ℕ → ℕ → ℕ → Type 0
AreEmptyShares parts entry_parts entries over_parts overs =
    (0 < parts) × (entry_parts ≡ parts) × (entries ≡ 0) × (over_parts ≡ parts) × (overs ≡ 0)

abbrev pub one_part : Shares
one_part = record { parts = 1; entries = 0; overs = 0 }

-- a seat of one part was split off
abbrev pub SplitsOff : Shares → Shares → Shares → Type 0
SplitsOff old new seat = (seat ≡ one_part) × (1 < old.parts) × (new ≡ record old { parts = old.parts - 1 })

-- the sums over seats
abbrev pub all_parts : List Shares → ℕ
all_parts seats = sum_by (λ (s : Shares). s.parts) seats

abbrev pub all_entries : List Shares → ℕ
all_entries seats = sum_by (λ (s : Shares). s.entries) seats

abbrev pub all_overs : List Shares → ℕ
all_overs seats = sum_by (λ (s : Shares). s.overs) seats

-- the merged share of all entries, or of all overs, of these seats
abbrev pub HoldsEntries : ℕ → ℕ → List Shares → Type 0
HoldsEntries parts amount seats = (parts ≡ all_parts seats) × (amount ≡ all_entries seats)

abbrev pub HoldsOvers : ℕ → ℕ → List Shares → Type 0
HoldsOvers parts amount seats = (parts ≡ all_parts seats) × (amount ≡ all_overs seats)
