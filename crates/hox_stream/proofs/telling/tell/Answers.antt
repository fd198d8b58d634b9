-- What is drained is written.
use Rattle.std.proofs.Common.{◌≡◌, ℕ, [], true, map, take, refl, sym, ◌∙◌, subst}
use Rattle.kpn_model.specs.Network.{family_of}
use Rattle.kpn_flow.specs.Events.{Drained, Flows}
use Rattle.kpn_flow.specs.Flows.{is_among}
use Rattle.hox_stream.proofs.Flowed.{drained_at_ends, same_net_of, tells_none}
use Rattle.hox_stream.proofs.Ported.{writes_none}
use Rattle.hox_stream.proofs.telling.tell.Goals as goal

pub returns-in-Ok : goal.returns-in-Ok
returns-in-Ok g c =
    let output : is_among c.args.flow.now.outputs c.args.outlet.now.channel ≡ true = subst (λ n. is_among c.args.flow.now.outputs n ≡ true) c.channel-channel.ensures (sym c.is_output.ensures ∙ c.if-not-is_output.false) in
    record {
      tells = record {
        same = same_net_of _ _ c.drain_into-count.ensures.same;
        tokens = take c.drain_into-count.result c.drain_into-count.new.buffer;
        writes = c.write.ensures.writes;
        flows = rw c.channel-channel.ensures at c.drain_into-count.ensures.drained;
        at_ends = drained_at_ends (is_among c.args.flow.now.inputs) (is_among c.args.flow.now.outputs) c.args.outlet.now.channel (take c.drain_into-count.result c.drain_into-count.new.buffer) output;
      };
      same = c.drain_into-count.ensures.same;
      none = λ e. cc;
      fault = tt;
    }

pub returns-in-Err : goal.returns-in-Err
returns-in-Err g c =
    let output : is_among c.args.flow.now.outputs c.args.outlet.now.channel ≡ true = subst (λ n. is_among c.args.flow.now.outputs n ≡ true) c.channel-channel.ensures (sym c.is_output.ensures ∙ c.if-not-is_output.false) in
    record {
      tells = record {
        same = same_net_of _ _ c.drain_into-count.ensures.same;
        tokens = take c.drain_into-count.result c.drain_into-count.new.buffer;
        writes = c.write.ensures.writes;
        flows = rw c.channel-channel.ensures at c.drain_into-count.ensures.drained;
        at_ends = drained_at_ends (is_among c.args.flow.now.inputs) (is_among c.args.flow.now.outputs) c.args.outlet.now.channel (take c.drain_into-count.result c.drain_into-count.new.buffer) output;
      };
      same = c.drain_into-count.ensures.same;
      none = λ e. cc;
      fault = c.in-Err.ensures.fault;
    }

pub returns-then-not-is_output : goal.returns-then-not-is_output
returns-then-not-is_output g c =
    record {
      tells = tells_none (family_of g.B.Kinds.Kinds.start g.B.Kinds.Kinds.answer_of) c.args.flow.now c.args.outlet.now;
      same = record { network = refl; inputs = refl; unended = refl; outputs = refl };
      none = λ e. refl;
      fault = tt;
    }

pub returns-then-count-eq0 : goal.returns-then-count-eq0
returns-then-count-eq0 g c =
    let kinds = family_of g.B.Kinds.Kinds.start g.B.Kinds.Kinds.answer_of in
    let Led : ℕ → Type 0 = λ n. Flows kinds c.args.flow.now.network c.args.flow.now.state (map (λ token. Drained c.channel-channel.result token) (take n c.drain_into-count.new.buffer)) c.drain_into-count.new.self.state in
    record {
      tells = record {
        same = same_net_of _ _ c.drain_into-count.ensures.same;
        tokens = [];
        writes = writes_none c.args.outlet.now;
        flows = subst Led c.if-count-eq0.true c.drain_into-count.ensures.drained;
        at_ends = tt;
      };
      same = c.drain_into-count.ensures.same;
      none = λ e. subst Led c.if-count-eq0.true c.drain_into-count.ensures.drained;
      fault = tt;
    }
