-- A stream from its start to its end.
use Rattle.std.specs.Prelude.{◌≡◌, ◌≢◌, ◌<◌, ◌≤◌, ◌⊎◌, ℕ, Bool, false, List, [], ◌∷◌, drop, length, map, Option}
use Rattle.std.specs.Io.KnownBytes.{Appends}
use Rattle.std.specs.List.{zip}
use Rattle.kpn_model.specs.Network.{Family, Network, channel_of}
use Rattle.kpn_model.specs.Semantics.{start}
use Rattle.kpn_front.specs.Written.{SinkView}
use Rattle.kpn_tokens.specs.declared.layouts.Decimals.{Decimals}
use Rattle.kpn_tokens.specs.declared.layouts.Layout.{Layout}
use Rattle.kpn_tokens.specs.declared.tables.Table.{Table}
use Rattle.kpn_tokens.specs.Tables.{table_text}
use Rattle.kpn_flow.specs.Events.{Event, Flows, fed, drained}
use Rattle.kpn_flow.specs.Flows.{FlowView, is_among}
use Rattle.kpn_flow.specs.Pieces.{IsOneRunInPieces}
use Rattle.kpn_flow.specs.Preloaded.{IsAtEnds}
use Rattle.hox_stream.specs.declared.finish.StreamFinish.{StreamFinish}
use Rattle.hox_stream.specs.declared.serving.EndedStream.{EndedStream}
use Rattle.hox_stream.specs.declared.serving.LaidEnds.{LaidEnds}
use Rattle.hox_stream.specs.declared.serving.LaidOut.{LaidOut}
use Rattle.hox_stream.specs.declared.serving.LaidTable.{LaidTable}
use Rattle.hox_stream.specs.declared.finish.StreamFinish.TheVariants.{OtherSort}
use Rattle.hox_stream.specs.Lanes.{new_lane}
use Rattle.hox_stream.specs.Ports.{IsSameNet, Takes}
use Rattle.hox_stream.specs.Streams.{AreWritten, IsFinish, inlet_at, outlet_at, table_at, TableWritesDrained, SinkWritesDrained}
use Rattle.hox_stream.specs.Tables.{EndsTable, taken_columns}
use Rattle.hox_stream.specs.Views.{InletView, LaneView, OutletView, OutsView, TableView, outs, fresh_inlet, fresh_outlet, fresh_table}

abbrev pub new_inlet : Network → ℕ → Layout → Option (List ℕ) → Bool → InletView
new_inlet net c layout remaining has_failed = fresh_inlet c layout (channel_of net c).sort remaining has_failed

abbrev pub new_outlet : ℕ → Layout → Option (List ℕ) → OutletView
new_outlet c layout contents = fresh_outlet c layout contents

module _ {X : Type 0} (remaining : X → Option (List ℕ)) (has_failed : X → Bool) where
  -- the source of a channel
  abbrev pub laid_inlet : Network → ℕ → LaidOut X → InletView
  laid_inlet net c laid = new_inlet net c laid.layout (remaining laid.stream) (has_failed laid.stream)

  abbrev pub new_inlets : Network → List ℕ → List (LaidOut X) → List InletView
  new_inlets net channels sources = map (λ p. laid_inlet net p.0 p.1) (zip channels sources)

  -- the sources of a flow
  abbrev pub flow_inlets : FlowView → List (LaidOut X) → List InletView
  flow_inlets s sources = new_inlets s.network s.inputs sources

abbrev pub new_outlets : {X : Type 0} → (X → SinkView) → List ℕ → List (LaidOut X) → List OutletView
new_outlets seen channels sinks = map (λ p. new_outlet p.0 p.1.layout (seen p.1.stream).contents) (zip channels sinks)

abbrev pub new_lanes : Table → List ℕ → List Decimals → List LaneView
new_lanes table channels columns = map (λ p. new_lane table p.0 p.1) (zip channels columns)

-- the columns of a table, and the channels after its own
abbrev pub laid_lanes : {X : Type 0} → List ℕ → LaidTable X → List LaneView
laid_lanes channels laid = new_lanes laid.table channels laid.columns.items

abbrev pub later_channels : {X : Type 0} → LaidTable X → List ℕ → List ℕ
later_channels laid channels = drop (length laid.columns.items) channels

abbrev pub new_table : {X : Type 0} → (X → SinkView) → List ℕ → LaidTable X → TableView
new_table seen channels laid = fresh_table laid.table (laid_lanes channels laid) (seen laid.stream).contents

abbrev pub new_tables : {X : Type 0} → (X → SinkView) → List ℕ → List (LaidTable X) → List TableView
new_tables seen channels [] = []
new_tables seen channels (laid ∷ more) =
    new_table seen channels laid ∷ new_tables seen (later_channels laid channels) more

-- the tables follow the sinks
abbrev pub new_outs : {X : Type 0} → (X → SinkView) → List ℕ → List (LaidOut X) → List (LaidTable X) → OutsView
new_outs seen channels sinks tables =
    outs (new_outlets seen channels sinks) (new_tables seen (drop (length sinks) channels) tables)

-- the tokens that a table's columns took of the drained ones were written to it
abbrev pub AppendsTable : List Event → TableView → TableView → Type 0
AppendsTable events p q =
    Appends p.contents q.contents (table_text p.table (taken_columns p.lanes (drained events)))

module _ (kinds : Family) (s t : FlowView) where
  -- from the start of its network, events at its ends led s to t, and it ended for this cause. The records read
  -- from a source were fed into its channel; the tokens drained from a channel were written to its sink, or to
  -- its column: first the full rows, then the rest. What happened is a run of the network that held all its
  -- input from the start. At most 8,192 bytes are held of each source, and at most 4,096 wait at each sink
  pub record Serves (ins ins_after : List InletView) (before after : OutsView) (finish : StreamFinish) : Type 0 where
    pub same : IsSameNet s t
    pub events : List Event
    pub flows : Flows kinds s.network (start kinds s.network) events t.state
    pub at_ends : IsAtEnds (is_among s.inputs) (is_among s.outputs) events
    pub as_many_inlets : length ins_after ≡ length ins
    pub as_many_outlets : length after.sinks ≡ length before.sinks
    pub taken : (k : ℕ) → k < length ins
        → Takes (inlet_at ins k) (inlet_at ins_after k) (fed events (inlet_at ins k).channel)
    pub written : (k : ℕ) → k < length before.sinks
        → SinkWritesDrained events (outlet_at before.sinks k) (outlet_at after.sinks k)
    pub kept : (k : ℕ) → k < length ins → length (inlet_at ins_after k).kept ≤ 8192
    pub waiting : (k : ℕ) → k < length before.sinks → length (outlet_at after.sinks k).waiting ≤ 4096
    pub full : List TableView
    pub as_many_full : length full ≡ length before.tables
    pub as_many_tables : length after.tables ≡ length before.tables
    pub tabled : (k : ℕ) → k < length before.tables
        → TableWritesDrained events (table_at before.tables k) (table_at full k)
    pub rest : (k : ℕ) → k < length before.tables → EndsTable (table_at full k) (table_at after.tables k)
    pub columns : (k : ℕ) → k < length before.tables → 0 < length (table_at before.tables k).lanes
        → (table_at after.tables k).has_failed ≡ false
        → AppendsTable events (table_at before.tables k) (table_at after.tables k)
    pub told : AreWritten after
    pub ended : IsFinish kinds t ins_after (outs after.sinks full) finish ⊎ IsFinish kinds t ins_after after finish
    pub sorts_fit : (k : ℕ) → finish ≢ OtherSort k
    pub one_run : IsOneRunInPieces kinds t

-- the sinks and tables of a flow, before it is served
abbrev outs_laid : {X Y : Type 0} → (Y → SinkView) → FlowView → LaidEnds X Y → OutsView
outs_laid seen opened ends = new_outs seen opened.outputs ends.sinks.items ends.tables.items

-- and when it has ended
abbrev outs_left : {F X Y : Type 0} → EndedStream F X Y → OutsView
outs_left ended = outs ended.outlets.items ended.tables.items

module _ {F X Y : Type 0} (kinds : Family) (remaining : X → Option (List ℕ)) (has_failed : X → Bool) where
  -- a flow was served between these ends, until it ended so
  abbrev pub ServesEnds : (Y → SinkView) → FlowView → LaidEnds X Y → EndedStream F X Y → Type 0
  ServesEnds seen opened ends ended =
      Serves kinds opened ended.flow (flow_inlets remaining has_failed opened ends.sources.items) ended.inlets.items
      (outs_laid seen opened ends) (outs_left ended) ended.finish
