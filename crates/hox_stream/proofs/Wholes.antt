-- What comes of a stream from its start.
use Rattle.std.proofs.Common.{◌≡◌, ◌≢◌, ◌<◌, ◌≤◌, ◌+◌, ◌⊎◌, inl, inr, ℕ, zero, suc, Bool, false, List, [], ◌∷◌, drop, length, Option, refl, sym, ap, ◌∙◌, subst, arith}
use Rattle.std.specs.List.{zip}
use Rattle.kpn_front.specs.Written.{SinkView}
use Rattle.kpn_model.specs.Network.{Family, Network, channel_of}
use Rattle.kpn_model.specs.Semantics.{State}
use Rattle.kpn_flow.specs.Events.{Flows, drained}
use Rattle.kpn_flow.specs.Flows.{FlowView}
use Rattle.kpn_flow.specs.Ends.{has_twice}
use Rattle.hox_stream.specs.declared.finish.StreamFinish.{StreamFinish}
use Rattle.hox_stream.specs.declared.serving.LaidOut.{LaidOut}
use Rattle.hox_stream.specs.declared.serving.LaidTable.{LaidTable}
use Rattle.hox_stream.specs.declared.finish.StreamFinish.TheVariants.{OtherSort}
use Rattle.hox_stream.specs.Serves.{Serves, new_inlet, new_inlets, new_outlet, new_outlets, new_outs, new_tables}
use Rattle.hox_stream.specs.Starts.{IsStart}
use Rattle.hox_stream.specs.Streams.{AreInletsApart, AreOutletsApart, AreOutsApart, IsFinish, Streams, StreamsOut, inlet_at, outlet_at, table_at}
use Rattle.hox_stream.specs.Lanes.{new_lane}
use Rattle.hox_stream.specs.Tables.{lane_at}
use Rattle.hox_stream.specs.Views.{InletView, LaneView, OutletView, OutsView, no_inlet, no_lane, no_outlet, outs}
use Rattle.hox_stream.proofs.Stacked.{columns_written}
use Rattle.hox_stream.proofs.Behind.{before, column_behind, columns_apart, made_within}
use Rattle.hox_stream.proofs.Paired.{apart, each_made, made_at}

module _ {X : Type 0} (remaining : X → Option (List ℕ)) (has_failed : X → Bool) (net : Network) (channels : List ℕ) (once : has_twice channels ≡ false) (sources : List (LaidOut X)) where
  inlets_apart : AreInletsApart (new_inlets remaining has_failed net channels sources)
  inlets_apart j k h i e =
      let a = made_at (λ (p : InletView). p.channel) no_inlet (λ (p : ℕ × LaidOut X). new_inlet net p.0 p.1.layout (remaining p.1.stream) (has_failed p.1.stream)) (λ p. refl) channels sources j h in
      let b = made_at (λ (p : InletView). p.channel) no_inlet (λ (p : ℕ × LaidOut X). new_inlet net p.0 p.1.layout (remaining p.1.stream) (has_failed p.1.stream)) (λ p. refl) channels sources k i in
      apart channels once j k a.0 b.0 (sym a.1 ∙ e ∙ b.1)

  -- the tokens of each source have the sort of its channel
  sorts_fit : (k : ℕ) → k < length (new_inlets remaining has_failed net channels sources) → (inlet_at (new_inlets remaining has_failed net channels sources) k).sort ≡ (channel_of net (inlet_at (new_inlets remaining has_failed net channels sources) k).channel).sort
  sorts_fit k h = each_made (λ (p : InletView). p.sort ≡ (channel_of net p.channel).sort) no_inlet (λ (p : ℕ × LaidOut X). new_inlet net p.0 p.1.layout (remaining p.1.stream) (has_failed p.1.stream)) (λ p. refl) (zip channels sources) k h

-- nothing is kept of a source of which nothing was read, and nothing waits at a sink to which nothing was written
none_kept : {X : Type 0} (remaining : X → Option (List ℕ)) (has_failed : X → Bool) (net : Network) (channels : List ℕ) (sources : List (LaidOut X)) (k : ℕ)
    → k < length (new_inlets remaining has_failed net channels sources) → length (inlet_at (new_inlets remaining has_failed net channels sources) k).kept ≤ 8192
none_kept {X} remaining has_failed net channels sources k h = each_made (λ (p : InletView). length p.kept ≤ 8192) no_inlet (λ (p : ℕ × LaidOut X). new_inlet net p.0 p.1.layout (remaining p.1.stream) (has_failed p.1.stream)) (λ p. omega arith) (zip channels sources) k h

none_waiting : {X : Type 0} (seen : X → SinkView) (channels : List ℕ) (sinks : List (LaidOut X)) (k : ℕ)
    → k < length (new_outlets seen channels sinks) → length (outlet_at (new_outlets seen channels sinks) k).waiting ≤ 4096
none_waiting {X} seen channels sinks k h = each_made (λ (p : OutletView). length p.waiting ≤ 4096) no_outlet (λ (p : ℕ × LaidOut X). new_outlet p.0 p.1.layout (seen p.1.stream).contents) (λ p. omega arith) (zip channels sinks) k h

outlets_apart : {X : Type 0} (seen : X → SinkView) (channels : List ℕ) → has_twice channels ≡ false → (sinks : List (LaidOut X)) → AreOutletsApart (new_outlets seen channels sinks)
outlets_apart {X} seen channels once sinks j k h i e =
    let a = made_at (λ (p : OutletView). p.channel) no_outlet (λ (p : ℕ × LaidOut X). new_outlet p.0 p.1.layout (seen p.1.stream).contents) (λ p. refl) channels sinks j h in
    let b = made_at (λ (p : OutletView). p.channel) no_outlet (λ (p : ℕ × LaidOut X). new_outlet p.0 p.1.layout (seen p.1.stream).contents) (λ p. refl) channels sinks k i in
    apart channels once j k a.0 b.0 (sym a.1 ∙ e ∙ b.1)

-- no two sinks are for one channel, nor two columns, nor a sink and a column
outs_apart : {X : Type 0} (seen : X → SinkView) (channels : List ℕ) → has_twice channels ≡ false → (sinks : List (LaidOut X)) (tables : List (LaidTable X)) → AreOutsApart (new_outs seen channels sinks tables)
outs_apart {X} seen channels once sinks tables = record {
  sinks = outlets_apart seen channels once sinks;
  both = λ j k i hj hk hi e.
      let make : ℕ × LaidOut X → OutletView = λ p. new_outlet p.0 p.1.layout (seen p.1.stream).contents in
      let a = made_at (λ (p : OutletView). p.channel) no_outlet make (λ p. refl) channels sinks j hj in
      let b = column_behind seen (length sinks) channels tables k i hk hi in
      let within = made_within make channels sinks j hj in
      let same : j ≡ length sinks + (before tables k + i) = apart channels once j (length sinks + (before tables k + i)) a.0 b.1 (sym a.1 ∙ e ∙ b.0) in
      absurd (omega (arith, same, within));
  tables = λ j k h i hj hk hh hi e.
      let a = column_behind seen (length sinks) channels tables j h hj hh in
      let b = column_behind seen (length sinks) channels tables k i hk hi in
      let same : length sinks + (before tables j + h) ≡ length sinks + (before tables k + i) =
      apart channels once (length sinks + (before tables j + h)) (length sinks + (before tables k + i)) a.1 b.1 (sym a.0 ∙ e ∙ b.0) in
      columns_apart seen tables j k h i a.2 b.2 (omega (arith, same));
}

-- no token waits in the columns of a table to which nothing was written
none_waits : {X : Type 0} (seen : X → SinkView) (channels : List ℕ) (tables : List (LaidTable X)) (k i : ℕ) → k < length (new_tables seen channels tables) → i < length (table_at (new_tables seen channels tables) k).lanes
    → (lane_at (table_at (new_tables seen channels tables) k) i).waiting ≡ []
none_waits seen channels [] k i h hi = absurd (omega (arith, h))
none_waits seen channels (t ∷ ts) zero i h hi = each_made (λ (l : LaneView). l.waiting ≡ []) no_lane (λ p. new_lane t.table p.0 p.1) (λ p. refl) (zip channels t.columns.items) i hi
none_waits seen channels (t ∷ ts) (suc k) i h hi = none_waits seen (drop (length t.columns.items) channels) ts k i (omega (arith, h)) hi

-- if the tokens of all sources had the sorts of their channels, they still have them
never_other : (kinds : Family) (s t : FlowView) (ins after : List InletView) (outs left : OutsView) → Streams kinds s t ins after outs left → AreInletsApart ins
    → ((k : ℕ) → k < length ins → (inlet_at ins k).sort ≡ (channel_of s.network (inlet_at ins k).channel).sort) → (finish : StreamFinish) → IsFinish kinds t after left finish → (k : ℕ) → finish ≢ OtherSort k
never_other kinds s t ins after outs left x single fit finish h k e =
    let bad = subst (λ (f : StreamFinish). IsFinish kinds t after left f) e h in
    let within : k < length ins = subst (λ n. k < n) x.as_many_inlets bad.0 in
    let takes = x.taken single k within in
    bad.1 (takes.sort ∙ fit k within ∙ ap (λ c. (channel_of s.network c).sort) (sym takes.channel) ∙ ap (λ (net : Network). (channel_of net (inlet_at after k).channel).sort) (sym x.same.network))

-- whether the rest of the tables was written or not
never_other_ended : (kinds : Family) (s t : FlowView) (ins after : List InletView) (before between left : OutsView) → Streams kinds s t ins after before between → AreInletsApart ins
    → ((k : ℕ) → k < length ins → (inlet_at ins k).sort ≡ (channel_of s.network (inlet_at ins k).channel).sort) → (finish : StreamFinish) → IsFinish kinds t after between finish ⊎ IsFinish kinds t after left finish
    → (k : ℕ) → finish ≢ OtherSort k
never_other_ended kinds s t ins after before between left x single fit finish (inl h) k e = never_other kinds s t ins after before between x single fit finish h k e
never_other_ended kinds s t ins after before between left x single fit finish (inr h) k e =
    let bad = subst (λ (f : StreamFinish). IsFinish kinds t after left f) e h in
    never_other kinds s t ins after before between x single fit (OtherSort k) bad k refl

pub serves : {X Y : Type 0} (remaining : X → Option (List ℕ)) (has_failed : X → Bool) (seen : Y → SinkView) (sources : List (LaidOut X)) (sinks : List (LaidOut Y)) (tables : List (LaidTable Y))
    (kinds : Family) (s t : FlowView) (inputs outputs : List ℕ) (after : List InletView) (left : OutsView) (finish : StreamFinish)
    → IsStart kinds s inputs outputs
    → StreamsOut kinds s t (new_inlets remaining has_failed s.network inputs sources) after (new_outs seen outputs sinks tables) left finish
    → Serves kinds s t (new_inlets remaining has_failed s.network s.inputs sources) after (new_outs seen s.outputs sinks tables) left finish
serves remaining has_failed seen sources sinks tables kinds s t inputs outputs after left finish at_start out =
    let x = out.streams in
    let single = inlets_apart remaining has_failed s.network inputs at_start.apart.inputs_once sources in
    let single_out = outs_apart seen outputs at_start.apart.outputs_once sinks tables in
    let made : Serves kinds s t (new_inlets remaining has_failed s.network inputs sources) after (new_outs seen outputs sinks tables) left finish = record {
      same = x.same;
      events = x.events;
      flows = subst (λ (M : State). Flows kinds s.network M x.events t.state) at_start.state x.flows;
      at_ends = x.at_ends;
      as_many_inlets = x.as_many_inlets;
      as_many_outlets = x.as_many_outlets;
      taken = λ k h. x.taken single k h;
      written = λ k h. x.written single_out k h;
      kept = λ k h. (x.taken single k h).held (none_kept remaining has_failed s.network inputs sources k h);
      waiting = λ k h. (x.written single_out k h).held (none_waiting seen outputs sinks k h);
      full = out.between;
      as_many_full = x.as_many_tables;
      as_many_tables = out.rest.0 ∙ x.as_many_tables;
      tabled = λ k h. x.tabled single_out k h;
      rest = λ k h. out.rest.1 k (subst (λ n. k < n) (sym x.as_many_tables) h);
      columns = λ k h some unfailed.
          columns_written (table_at (new_outs seen outputs sinks tables).tables k) (table_at out.between k) (table_at left.tables k) (drained x.events)
          (λ i hi. none_waits seen (drop (length sinks) outputs) tables k i h hi) some (x.tabled single_out k h) (out.rest.1 k (subst (λ n. k < n) (sym x.as_many_tables) h)) unfailed;
      told = out.written;
      ended = out.ended;
      sorts_fit = never_other_ended kinds s t _ after _ (outs left.sinks out.between) left x single (sorts_fit remaining has_failed s.network inputs at_start.apart.inputs_once sources) finish out.ended;
      one_run = out.one_run;
    } in
    subst (λ l. Serves kinds s t (new_inlets remaining has_failed s.network l sources) after (new_outs seen s.outputs sinks tables) left finish) at_start.inputs_are
    (subst (λ l. Serves kinds s t (new_inlets remaining has_failed s.network inputs sources) after (new_outs seen l sinks tables) left finish) at_start.outputs_are made)
