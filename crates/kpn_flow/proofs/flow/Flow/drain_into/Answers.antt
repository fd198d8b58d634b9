-- Token by token the output is drained.
use Rattle.std.proofs.Common.{◌∙◌, arith, subst, length-set}
use Rattle.kpn_model.specs.Network.{Network, family_of}
use Rattle.kpn_flow.specs.Events.{Drained, Happens}
use Rattle.kpn_flow.proofs.Batches.{one_more_set, rest_set}
use Rattle.kpn_flow.proofs.flow.Flow.drain_into.Goals as goal

pub loop-drained-preserved : goal.loop-drained-preserved
loop-drained-preserved g c =
    let kinds = family_of g.B.Kinds.Kinds.start g.B.Kinds.Kinds.answer_of in
    let s = c.args.self.now in
    let before = c.loop-drained.invariant in
    record {
      same = record {
        network = c.drain.ensures.same.network ∙ before.same.network;
        inputs = c.drain.ensures.same.inputs ∙ before.same.inputs;
        unended = c.drain.ensures.same.unended ∙ before.same.unended;
        outputs = c.drain.ensures.same.outputs ∙ before.same.outputs;
      };
      counts = c.drain.ensures.counts ∙ before.counts;
      few = let l = length-set c.loop-drained.buffer c.loop-drained.drained c.in-Some.token in omega (arith, c.loop-drained-test.true);
      long = length-set c.loop-drained.buffer c.loop-drained.drained c.in-Some.token ∙ before.long;
      flows = one_more_set kinds s.network (λ t. Drained c.args.channel t) c.loop-drained.buffer c.loop-drained.drained c.in-Some.token s.state c.loop-drained.self.state c.drain.new.self.state c.loop-drained-test.true before.flows
          (subst (λ (n : Network). Happens kinds n c.loop-drained.self.state (Drained c.args.channel c.in-Some.token) c.drain.new.self.state) before.same.network c.in-Some.ensures.drained);
      rest = rest_set c.loop-drained.buffer c.args.buffer.now c.loop-drained.drained c.in-Some.token before.rest;
    }
