-- A flow between sources and sinks.
use Rattle.std.specs.Prelude.{◌≡◌, ◌≢◌, ◌<◌, ◌+◌, ◌&&◌, ◌⊎◌, ℕ, Bool, true, false, List, [], length, get_or, set, Result, Ok, IfErr, ◌≤◌}
use Rattle.kpn_model.specs.Network.{Family}
use Rattle.kpn_model.specs.Endings.{NothingGoesOn}
use Rattle.kpn_flow.specs.Events.{Event, Flows, fed, drained}
use Rattle.kpn_flow.specs.Flows.{FlowView, IsSameFlow, is_among}
use Rattle.kpn_flow.specs.Pauses.{NoneCanHelp}
use Rattle.kpn_flow.specs.Pieces.{IsOneRunInPieces}
use Rattle.kpn_flow.specs.Preloaded.{IsAtEnds}
use Rattle.kpn_flow.specs.Waits.{starves}
use Rattle.hox_stream.specs.declared.finish.StreamFinish.{StreamFinish}
use Rattle.hox_stream.specs.declared.finish.StreamFinish.TheVariants.{Over, Refused, Unread, OtherSort, Unwritten, Misfit, Apart, Idle, Memory, Cut}
use Rattle.hox_stream.specs.declared.table.TableFault.{TableFault}
use Rattle.hox_stream.specs.declared.table.TableFault.TheVariants.{Misfit as MisfitInTable, Apart as ApartInTable}
use Rattle.hox_stream.specs.Ports.{IsSameNet, Takes, Writes, HasOtherSort, IsRejectedIn}
use Rattle.hox_stream.specs.Tables.{EndsTable, IsTableFault, WritesTable, lane_at}
use Rattle.hox_stream.specs.Views.{InletView, OutletView, OutsView, TableView, no_inlet, no_outlet, no_table, outs}

abbrev pub inlet_at : List InletView → ℕ → InletView
inlet_at ins k = get_or ins k no_inlet

abbrev pub outlet_at : List OutletView → ℕ → OutletView
outlet_at outs k = get_or outs k no_outlet

abbrev pub table_at : List TableView → ℕ → TableView
table_at tables k = get_or tables k no_table

abbrev pub channel_at : TableView → ℕ → ℕ
channel_at p i = (lane_at p i).head.channel

-- no two sources, and no two sinks, share a channel
abbrev pub AreInletsApart : List InletView → Type 0
AreInletsApart ins =
    (j k : ℕ)
    → j < length ins → k < length ins → (inlet_at ins j).channel ≡ (inlet_at ins k).channel → j ≡ k

abbrev pub AreOutletsApart : List OutletView → Type 0
AreOutletsApart outs =
    (j k : ℕ)
    → j < length outs → k < length outs → (outlet_at outs j).channel ≡ (outlet_at outs k).channel → j ≡ k

-- no two sinks or columns share a channel
pub record AreOutsApart (outs : OutsView) : Type 0 where
  pub sinks : AreOutletsApart outs.sinks
  pub both : (j k i : ℕ) → j < length outs.sinks → k < length outs.tables → i < length (table_at outs.tables k).lanes
      → (outlet_at outs.sinks j).channel ≢ channel_at (table_at outs.tables k) i
  pub tables : (j k h i : ℕ) → j < length outs.tables → k < length outs.tables
      → h < length (table_at outs.tables j).lanes → i < length (table_at outs.tables k).lanes
      → channel_at (table_at outs.tables j) h ≡ channel_at (table_at outs.tables k) i → (j ≡ k) × (h ≡ i)

-- the tokens drained from its channel were written to a sink
abbrev pub SinkWritesDrained : List Event → OutletView → OutletView → Type 0
SinkWritesDrained events p q = Writes p q (drained events p.channel)

-- of the drained tokens those of its channels were taken into a table
abbrev pub TableWritesDrained : List Event → TableView → TableView → Type 0
TableWritesDrained events p q = WritesTable p q (λ i. drained events (channel_at p i))

module _ (kinds : Family) (s t : FlowView) where
  -- events at its ends lead the flow on. The records read from a source were fed into its channel; the tokens
  -- drained from a channel were written to its sink, or to its column, or wait there for their rows
  pub record Streams (ins ins_after : List InletView) (outs outs_after : OutsView) : Type 0 where
    pub same : IsSameNet s t
    pub events : List Event
    pub flows : Flows kinds s.network s.state events t.state
    pub at_ends : IsAtEnds (is_among s.inputs) (is_among s.outputs) events
    pub as_many_inlets : length ins_after ≡ length ins
    pub as_many_outlets : length outs_after.sinks ≡ length outs.sinks
    pub as_many_tables : length outs_after.tables ≡ length outs.tables
    pub taken : AreInletsApart ins → (k : ℕ) → k < length ins
        → Takes (inlet_at ins k) (inlet_at ins_after k) (fed events (inlet_at ins k).channel)
    pub written : AreOutsApart outs → (k : ℕ) → k < length outs.sinks
        → SinkWritesDrained events (outlet_at outs.sinks k) (outlet_at outs_after.sinks k)
    pub tabled : AreOutsApart outs → (k : ℕ) → k < length outs.tables
        → TableWritesDrained events (table_at outs.tables k) (table_at outs_after.tables k)

-- nothing waits at a sink of one channel, and at a table, unless a write failed
abbrev pub AreSinksWritten : List OutletView → Type 0
AreSinksWritten sinks =
    (k : ℕ) → k < length sinks → (outlet_at sinks k).has_failed ≡ false → (outlet_at sinks k).waiting ≡ []

abbrev pub AreTablesWritten : List TableView → Type 0
AreTablesWritten tables =
    (k : ℕ) → k < length tables → (table_at tables k).has_failed ≡ false → (table_at tables k).waiting ≡ []

-- nothing waits to be written to a sink, unless a write to it failed. Tokens may wait for their rows
pub record AreWritten (outs : OutsView) : Type 0 where
  pub sinks : AreSinksWritten outs.sinks
  pub tables : AreTablesWritten outs.tables

-- a failed sink stays failed; so does a misfit
pub record FaultsStay (p q : OutletView) : Type 0 where
  pub failed : p.has_failed ≡ true → q.has_failed ≡ true
  pub misfit : q.is_misfit ≡ p.is_misfit

-- what waits was written, or a write failed
pub record FlushesSink {X E : Type 0} (p q : OutletView) (result : Result X E) : Type 0 where
  pub writes : Writes p q []
  pub written : q.has_failed ≡ false → q.waiting ≡ []
  pub still : FaultsStay p q
  pub failed : IfErr result (λ _. q.has_failed ≡ true)

pub record TableStays (p q : TableView) : Type 0 where
  pub failed : p.has_failed ≡ true → q.has_failed ≡ true
  pub lanes : q.lanes ≡ p.lanes

abbrev pub AllFaultsStay : List OutletView → List OutletView → Type 0
AllFaultsStay sinks after =
    (length after ≡ length sinks) × ((k : ℕ) → FaultsStay (outlet_at sinks k) (outlet_at after k))

abbrev pub AllTablesStay : List TableView → List TableView → Type 0
AllTablesStay tables after =
    (length after ≡ length tables) × ((k : ℕ) → TableStays (table_at tables k) (table_at after k))

abbrev pub AllStay : OutsView → OutsView → Type 0
AllStay outs after = AllFaultsStay outs.sinks after.sinks × AllTablesStay outs.tables after.tables

abbrev pub is_waited_for : FlowView → InletView → Bool
is_waited_for s p = is_among s.unended p.channel && starves s.network s.standings p.channel

abbrev pub NoneIsWaitedFor : FlowView → List InletView → Type 0
NoneIsWaitedFor s ins = (k : ℕ) → k < length ins → is_waited_for s (inlet_at ins k) ≡ false

-- of the sources from one place up to another no process waits for any
abbrev pub NoneIsWaitedFrom : FlowView → List InletView → ℕ → ℕ → Type 0
NoneIsWaitedFrom s ins from end =
    (j : ℕ) → j < end → from ≤ j → is_waited_for s (inlet_at ins j) ≡ false

-- all that waits in each table was written, with gaps
abbrev pub AllEnd : List TableView → List TableView → Type 0
AllEnd tables after =
    (length after ≡ length tables) × ((k : ℕ) → k < length tables → EndsTable (table_at tables k) (table_at after k))

-- k is the place of a sink with P; or of a table, counted after the sinks, with Q
abbrev pub IsSinkAt : OutsView → ℕ → (OutletView → Type 0) → Type 0
IsSinkAt outs k P = (k < length outs.sinks) × P (outlet_at outs.sinks k)

abbrev pub IsTableAt : OutsView → ℕ → (TableView → Type 0) → Type 0
IsTableAt outs k Q =
    (j : ℕ) × (k ≡ length outs.sinks + j) × (j < length outs.tables) × Q (table_at outs.tables j)

-- k is the place of a sink with P, or of a table, counted after the sinks, with Q
abbrev pub IsOutAt : OutsView → ℕ → (OutletView → Type 0) → (TableView → Type 0) → Type 0
IsOutAt outs k P Q = IsSinkAt outs k P ⊎ IsTableAt outs k Q

-- when a stream ends for each cause
abbrev pub IsFinish : Family → FlowView → List InletView → OutsView → StreamFinish → Type 0
IsFinish kinds s ins outs (Over end) =
    NothingGoesOn kinds s.network s.state end × NoneCanHelp kinds s.network s.unended s.outputs s.state
IsFinish kinds s ins outs (Refused k refusal) = (k < length ins) × IsRejectedIn (inlet_at ins k) refusal
IsFinish kinds s ins outs (Unread k) = (k < length ins) × ((inlet_at ins k).has_failed ≡ true)
IsFinish kinds s ins outs (OtherSort k) = (k < length ins) × HasOtherSort s.network (inlet_at ins k)
IsFinish kinds s ins outs (Unwritten k) = IsOutAt outs k (λ p. p.has_failed ≡ true) (λ p. p.has_failed ≡ true)
IsFinish kinds s ins outs (Misfit k) = IsOutAt outs k (λ p. p.is_misfit ≡ true) (λ p. IsTableFault p MisfitInTable)
IsFinish kinds s ins outs (Apart k) = IsOutAt outs k (λ p. ⊥) (λ p. IsTableFault p ApartInTable)
IsFinish kinds s ins outs Idle = NoneIsWaitedFor s ins
IsFinish kinds s ins outs Memory = Unit {0}
IsFinish kinds s ins outs Cut = Unit {0}

-- nothing happens to a flow while only sinks, or only tables, or both go on so
abbrev pub SinksStream : List OutletView → List OutletView → Type 0
SinksStream before after =
    (kinds : Family) (s : FlowView) (ins : List InletView) (tables : List TableView)
    → Streams kinds s s ins ins (outs before tables) (outs after tables)

abbrev pub TablesStream : List TableView → List TableView → Type 0
TablesStream before after =
    (kinds : Family) (s : FlowView) (ins : List InletView) (sinks : List OutletView)
    → Streams kinds s s ins ins (outs sinks before) (outs sinks after)

abbrev pub OutsStream : OutsView → OutsView → Type 0
OutsStream before after =
    (kinds : Family) (s : FlowView) (ins : List InletView) → Streams kinds s s ins ins before after

-- whatever the flow, it ends so for these sinks; for these tables, which follow `first` sinks; or for both
abbrev pub EndsForSinks : List OutletView → StreamFinish → Type 0
EndsForSinks sinks f =
    (kinds : Family) (s : FlowView) (ins : List InletView) (tables : List TableView)
    → IsFinish kinds s ins (outs sinks tables) f

abbrev pub EndsForTables : ℕ → List TableView → StreamFinish → Type 0
EndsForTables first tables f =
    (kinds : Family) (s : FlowView) (ins : List InletView) (sinks : List OutletView)
    → length sinks ≡ first → IsFinish kinds s ins (outs sinks tables) f

abbrev pub EndsForOuts : OutsView → StreamFinish → Type 0
EndsForOuts outs f = (kinds : Family) (s : FlowView) (ins : List InletView) → IsFinish kinds s ins outs f

-- it ends so wherever table k, after `first` sinks, has this fault
abbrev pub EndsForFault : ℕ → ℕ → TableFault → StreamFinish → Type 0
EndsForFault first k fault f =
    (kinds : Family) (s : FlowView) (ins : List InletView) (sinks : List OutletView) (tables : List TableView)
    → length sinks ≡ first → k < length tables → IsTableFault (table_at tables k) fault
    → IsFinish kinds s ins (outs sinks tables) f

module _ {X : Type 0} (before after : List TableView) (first : ℕ) where
  -- all that waits in each table was written, with gaps, or the stream ends since a write failed. The tables follow
  -- `first` sinks
  pub record TablesEnd (result : Result X StreamFinish) : Type 0 where
    pub ends : AllEnd before after
    pub finish : IfErr result (EndsForTables first after)

-- the tables end, and the sinks of one channel stay as they are
pub record OutsEnd {X : Type 0} (before after : OutsView) (result : Result X StreamFinish) : Type 0 where
  pub sinks : after.sinks ≡ before.sinks
  pub ends : AllEnd before.tables after.tables
  pub finish : IfErr result (EndsForOuts after)

module _ (kinds : Family) (s t : FlowView) where
  -- the stream ends so for these sinks, or these tables, whatever the others are
  abbrev pub IsFinishForSinks : List OutletView → StreamFinish → Type 0
  IsFinishForSinks sinks f =
      (ins : List InletView) (tables : List TableView) → IsFinish kinds t ins (outs sinks tables) f

  abbrev pub IsFinishForTables : ℕ → List TableView → StreamFinish → Type 0
  IsFinishForTables first tables f =
      (ins : List InletView) (sinks : List OutletView)
      → length sinks ≡ first → IsFinish kinds t ins (outs sinks tables) f

  -- tokens were moved from channels to sinks of one channel, if any, or the stream ends; nothing else happened
  pub record TellsSinks (before after : List OutletView) (result : Result Bool StreamFinish) : Type 0 where
    pub streams : (ins : List InletView) (tables : List TableView)
        → Streams kinds s t ins ins (outs before tables) (outs after tables)
    pub same : IsSameFlow s t
    pub none : result ≡ Ok false → t.state ≡ s.state
    pub finish : IfErr result (IsFinishForSinks after)

  -- tokens were moved to the columns of a table, wherever it stands, if there were any, up to a fault; nothing else
  -- happened
  pub record TellsTable (p q : TableView) (result : Result Bool TableFault) : Type 0 where
    pub streams : (ins : List InletView) (sinks : List OutletView) (tables : List TableView) (k : ℕ)
        → k < length tables → table_at tables k ≡ p
        → Streams kinds s t ins ins (outs sinks tables) (outs sinks (set tables k q))
    pub same : IsSameFlow s t
    pub none : result ≡ Ok false → t.state ≡ s.state
    pub fault : IfErr result (IsTableFault q)

  -- tokens were moved to the columns of all tables, which follow `first` sinks, or the stream ends; nothing else
  -- happened
  pub record TellsTables (before after : List TableView) (first : ℕ) (result : Result Bool StreamFinish) : Type 0 where
    pub streams : (ins : List InletView) (sinks : List OutletView)
        → Streams kinds s t ins ins (outs sinks before) (outs sinks after)
    pub same : IsSameFlow s t
    pub none : result ≡ Ok false → t.state ≡ s.state
    pub finish : IfErr result (IsFinishForTables first after)

  -- and of all sinks
  pub record TellsOuts (before after : OutsView) (result : Result Bool StreamFinish) : Type 0 where
    pub streams : (ins : List InletView) → Streams kinds s t ins ins before after
    pub same : IsSameFlow s t
    pub none : result ≡ Ok false → t.state ≡ s.state
    pub finish : IfErr result (λ f. (ins : List InletView) → IsFinish kinds t ins after f)

  -- the flow went on, and the stream ends for this cause
  pub record StreamsTo (ins ins_after : List InletView) (before after : OutsView) (cause : StreamFinish) : Type 0 where
    pub streams : Streams kinds s t ins ins_after before after
    pub finish : IsFinish kinds t ins_after after cause

module _ (kinds : Family) (s t : FlowView) (ins ins_after : List InletView) where
  -- events led the flow on until it ended for this cause, or until writing the last rows failed. What happened
  -- is a run of the network that held all its input from the start
  pub record StreamsOut (before after : OutsView) (finish : StreamFinish) : Type 0 where
    pub between : List TableView
    pub streams : Streams kinds s t ins ins_after before (outs after.sinks between)
    pub rest : AllEnd between after.tables
    pub written : AreWritten after
    pub ended : IsFinish kinds t ins_after (outs after.sinks between) finish ⊎ IsFinish kinds t ins_after after finish
    pub one_run : IsOneRunInPieces kinds t
