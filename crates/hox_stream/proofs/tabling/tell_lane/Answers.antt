-- What is drained is taken into a column.
use Rattle.std.proofs.Common.{◌≡◌, ℕ, [], true, ap, map, take, refl, sym, ◌∙◌, subst}
use Rattle.kpn_model.specs.Network.{family_of}
use Rattle.kpn_flow.specs.Events.{Drained, Flows}
use Rattle.kpn_flow.specs.Flows.{is_among}
use Rattle.hox_stream.specs.Streams.{channel_at}
use Rattle.hox_stream.specs.Tables.{only_at}
use Rattle.hox_stream.specs.Views.{LaneView}
use Rattle.hox_stream.proofs.Flowed.{drained_at_ends, same_net_none, same_net_of}
use Rattle.hox_stream.proofs.Tabled.{only_none, writes_table_none}
use Rattle.hox_stream.proofs.tabling.tell_lane.Goals as goal

pub returns-in-Ok : goal.returns-in-Ok
returns-in-Ok g c =
    let channel = channel_at c.args.table.now c.args.place in
    let same : c.channel-channel.result ≡ channel = c.channel-channel.ensures ∙ ap (λ (lane : LaneView). lane.head.channel) c.lane.ensures in
    let output : is_among c.args.flow.now.outputs channel ≡ true = subst (λ n. is_among c.args.flow.now.outputs n ≡ true) same (sym c.is_output.ensures ∙ c.if-not-is_output.false) in
    record {
      tells = record {
        same = same_net_of _ _ c.drain_into-count.ensures.same;
        tokens = take c.drain_into-count.result c.drain_into-count.new.buffer;
        writes = c.write.ensures.writes;
        flows = rw same at c.drain_into-count.ensures.drained;
        at_ends = drained_at_ends (is_among c.args.flow.now.inputs) (is_among c.args.flow.now.outputs) channel (take c.drain_into-count.result c.drain_into-count.new.buffer) output;
      };
      same = c.drain_into-count.ensures.same;
      none = λ e. cc;
      fault = tt;
    }

pub returns-in-Err : goal.returns-in-Err
returns-in-Err g c =
    let channel = channel_at c.args.table.now c.args.place in
    let same : c.channel-channel.result ≡ channel = c.channel-channel.ensures ∙ ap (λ (lane : LaneView). lane.head.channel) c.lane.ensures in
    let output : is_among c.args.flow.now.outputs channel ≡ true = subst (λ n. is_among c.args.flow.now.outputs n ≡ true) same (sym c.is_output.ensures ∙ c.if-not-is_output.false) in
    record {
      tells = record {
        same = same_net_of _ _ c.drain_into-count.ensures.same;
        tokens = take c.drain_into-count.result c.drain_into-count.new.buffer;
        writes = c.write.ensures.writes;
        flows = rw same at c.drain_into-count.ensures.drained;
        at_ends = drained_at_ends (is_among c.args.flow.now.inputs) (is_among c.args.flow.now.outputs) channel (take c.drain_into-count.result c.drain_into-count.new.buffer) output;
      };
      same = c.drain_into-count.ensures.same;
      none = λ e. cc;
      fault = c.in-Err.ensures.fault;
    }

pub returns-then-not-is_output : goal.returns-then-not-is_output
returns-then-not-is_output g c =
    record {
      tells = record { same = same_net_none c.args.flow.now; tokens = []; writes = writes_table_none c.args.table.now (only_at c.args.place []) (λ i h. only_none c.args.place i); flows = refl; at_ends = tt };
      same = record { network = refl; inputs = refl; unended = refl; outputs = refl };
      none = λ e. refl;
      fault = tt;
    }

pub returns-then-count-eq0 : goal.returns-then-count-eq0
returns-then-count-eq0 g c =
    let kinds = family_of g.B.Kinds.Kinds.start g.B.Kinds.Kinds.answer_of in
    let Led : ℕ → Type 0 = λ n. Flows kinds c.args.flow.now.network c.args.flow.now.state (map (λ token. Drained c.channel-channel.result token) (take n c.drain_into-count.new.buffer)) c.drain_into-count.new.self.state in
    record {
      tells = record {
        same = same_net_of _ _ c.drain_into-count.ensures.same;
        tokens = [];
        writes = writes_table_none c.args.table.now (only_at c.args.place []) (λ i h. only_none c.args.place i);
        flows = subst Led c.if-count-eq0.true c.drain_into-count.ensures.drained;
        at_ends = tt;
      };
      same = c.drain_into-count.ensures.same;
      none = λ e. subst Led c.if-count-eq0.true c.drain_into-count.ensures.drained;
      fault = tt;
    }
