-- Tokens that go out to a table: a file of several channels.
use Rattle.std.specs.Prelude.{◌≡◌, ◌<◌, ◌≤◌, ◌++◌, ◌||◌, ◌==◌, ℕ, Bool, zero, suc, true, false, not, List, [], ◌∷◌, None, drop, get_or, if◌then◌else◌, is_some, length, map, min, ⊤, Result, Ok, IfErr}
use Rattle.std.specs.List.{AllByRecursion, flat_map}
use Rattle.std.specs.Io.KnownBytes.{Appends}
use Rattle.kpn_model.specs.declared.token.Token.{Token}
use Rattle.kpn_model.specs.Network.{Family}
use Rattle.kpn_tokens.specs.declared.layouts.Cell.{Cell}
use Rattle.kpn_tokens.specs.Records.{listed}
use Rattle.kpn_tokens.specs.Tables.{ColumnView, first_cell, longest, row_text, rows_text}
use Rattle.kpn_flow.specs.Events.{Drained, Flows}
use Rattle.kpn_flow.specs.Flows.{FlowView, IsSameFlow}
use Rattle.hox_stream.specs.declared.table.TableFault.{TableFault}
use Rattle.hox_stream.specs.declared.table.TableFault.TheVariants.{Failed, Misfit, Apart, Memory}
use Rattle.hox_stream.specs.Ports.{CountsOn, IsSameNet, are_written, clipped_of, written_of, AreAtItsEnds, events_drained}
use Rattle.hox_stream.specs.Views.{HeadView, LaneView, TableView, no_lane}

abbrev pub lane_at : TableView → ℕ → LaneView
lane_at p i = get_or p.lanes i no_lane

abbrev pub heads_of : List LaneView → List HeadView
heads_of lanes = map (λ lane. lane.head) lanes

abbrev pub column_of : LaneView → ColumnView
column_of lane = record { decimals = lane.head.decimals; tokens = lane.waiting }

abbrev pub columns_of : List LaneView → List ColumnView
columns_of lanes = map column_of lanes

-- the first row of what waits
abbrev pub row_waiting : List LaneView → List Cell
row_waiting lanes = map first_cell (columns_of lanes)

-- the drained tokens that a column takes
abbrev pub taken_tokens : (ℕ → List Token) → LaneView → List Token
taken_tokens drained_of lane = written_of lane.head.layout lane.is_misfit (drained_of lane.head.channel)

-- the drained tokens that columns take, up to those that do not fit
abbrev pub taken_columns : List LaneView → (ℕ → List Token) → List ColumnView
taken_columns lanes drained_of =
    map (λ lane. record { decimals = lane.head.decimals; tokens = taken_tokens drained_of lane }) lanes

-- what waits after the first row, and after the first n
abbrev pub under : LaneView → LaneView
under lane = record lane { waiting = drop 1 lane.waiting }

abbrev pub past : ℕ → List LaneView → List LaneView
past zero lanes = lanes
past (suc n) lanes = past n (map under lanes)

-- how many rows have a token in each column
abbrev pub shortest : List LaneView → ℕ
shortest [] = 0
shortest (lane ∷ []) = length lane.waiting
shortest (lane ∷ other ∷ lanes) = min (length lane.waiting) (shortest (other ∷ lanes))

-- the cell has a token
abbrev pub HasToken : Cell → Type 0
HasToken cell = is_some cell.token ≡ true

abbrev pub IsFullRow : List HeadView → List Cell → Type 0
IsFullRow [] [] = ⊤
IsFullRow [] (cell ∷ cells) = ⊥
IsFullRow (head ∷ heads) [] = ⊥
IsFullRow (head ∷ heads) (cell ∷ cells) = (cell.decimals ≡ head.decimals) × HasToken cell × IsFullRow heads cells

abbrev pub no_cell : Cell
no_cell = record { decimals = record { digits = 0; is_unsigned = false }; token = None }

abbrev pub column_in : ℕ → List (List Cell) → List Token
column_in place rows = flat_map (λ row. listed (get_or row place no_cell).token) rows

-- the column at a place took these tokens, up to the first misfit. They and those that waited before are in
-- these rows, or wait now
pub record WritesLane (rows : List (List Cell)) (place : ℕ) (p q : LaneView) (tokens : List Token) : Type 0 where
  pub waiting : p.waiting ++ written_of p.head.layout p.is_misfit tokens ≡ column_in place rows ++ q.waiting
  pub misfit : q.is_misfit ≡ (p.is_misfit || not (are_written p.head.layout tokens))
  pub counted : CountsOn p.tokens q.tokens (length (written_of p.head.layout p.is_misfit tokens))
  pub clipped : CountsOn p.clipped q.clipped (clipped_of p.head.layout p.is_misfit tokens)

-- each column took tokens, and the rows that became full were written, unless a write failed; at most 4,096
-- bytes wait
pub record WritesTable (p q : TableView) (tokens : ℕ → List Token) : Type 0 where
  pub table : q.table ≡ p.table
  pub heads : heads_of q.lanes ≡ heads_of p.lanes
  pub unfailed : q.has_failed ≡ false → p.has_failed ≡ false
  pub rows : List (List Cell)
  pub full : AllByRecursion (IsFullRow (heads_of p.lanes)) rows
  pub written : q.has_failed ≡ false → Appends p.contents q.contents (flat_map (row_text p.table) rows)
  pub lanes : q.has_failed ≡ false → (i : ℕ) → i < length p.lanes
      → WritesLane rows i (lane_at p i) (lane_at q i) (tokens i)
  pub whole : q.has_failed ≡ false → shortest p.lanes ≡ 0 → shortest q.lanes ≡ 0
  pub held : length p.waiting ≤ 4096 → length q.waiting ≤ 4096

-- n rows were written, with gaps where a column has no token left
pub record RowsGo (p q : TableView) (n : ℕ) : Type 0 where
  pub table : q.table ≡ p.table
  pub heads : heads_of q.lanes ≡ heads_of p.lanes
  pub unfailed : q.has_failed ≡ false → p.has_failed ≡ false
  pub written : q.has_failed ≡ false → Appends p.contents q.contents (rows_text p.table n (columns_of p.lanes))
  pub lanes : q.has_failed ≡ false → q.lanes ≡ past n p.lanes
  pub held : length p.waiting ≤ 4096 → length q.waiting ≤ 4096

pub record FlushesTable (p q : TableView) : Type 0 where
  pub table : q.table ≡ p.table
  pub lanes : q.lanes ≡ p.lanes
  pub unfailed : q.has_failed ≡ false → p.has_failed ≡ false
  pub failed : p.has_failed ≡ true → q.has_failed ≡ true
  pub written : q.has_failed ≡ false → Appends p.contents q.contents []
  pub emptied : q.has_failed ≡ false → q.waiting ≡ []
  pub held : length p.waiting ≤ 4096 → length q.waiting ≤ 4096

-- all that waits was written, with gaps where a column is shorter
pub record EndsTable (p q : TableView) : Type 0 where
  pub rows : RowsGo p q (longest (columns_of p.lanes))
  pub emptied : q.has_failed ≡ false → q.waiting ≡ []

-- all that waits was written, with gaps, or a write failed
pub record EndsRows {X E : Type 0} (p q : TableView) (result : Result X E) : Type 0 where
  pub ends : EndsTable p q
  pub failed : IfErr result (λ _. q.has_failed ≡ true)

abbrev pub only_at : ℕ → List Token → ℕ → List Token
only_at place tokens i = if i == place then tokens else []

-- when a write ends with each fault
abbrev pub IsTableFault : TableView → TableFault → Type 0
IsTableFault q Failed = q.has_failed ≡ true
IsTableFault q Memory = q.has_failed ≡ true
IsTableFault q Misfit = (i : ℕ) × (i < length q.lanes) × ((lane_at q i).is_misfit ≡ true)
IsTableFault q Apart = (i : ℕ) × (i < length q.lanes) × (1000000 < length (lane_at q i).waiting)

-- n rows were written, or a write failed
pub record WritesRows {X : Type 0} (p q : TableView) (n : ℕ) (result : Result X TableFault) : Type 0 where
  pub rows : RowsGo p q n
  pub failed : IfErr result (λ _. q.has_failed ≡ true)
  pub fault : IfErr result (IsTableFault q)

module _ (kinds : Family) (s t : FlowView) where
  -- the tokens drained from a column's channel were taken into it; nothing else happened
  pub record TellsLane (p q : TableView) (i : ℕ) : Type 0 where
    pub same : IsSameNet s t
    pub tokens : List Token
    pub writes : WritesTable p q (only_at i tokens)
    pub flows : Flows kinds s.network s.state (map (λ token. Drained (lane_at p i).head.channel token) tokens) t.state
    pub at_ends : AreAtItsEnds s (events_drained (lane_at p i).head.channel tokens)

  -- so they were, if there were any, up to a fault; the flow has the same ends
  pub record TellsColumn (p q : TableView) (i : ℕ) (result : Result Bool TableFault) : Type 0 where
    pub tells : TellsLane p q i
    pub same : IsSameFlow s t
    pub none : result ≡ Ok false → t.state ≡ s.state
    pub fault : IfErr result (IsTableFault q)
