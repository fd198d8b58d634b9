-- Token by token the batch is fed.
use Rattle.std.proofs.Common.{◌∙◌, refl, arith, subst, get_or}
use Rattle.kpn_model.specs.declared.token.Token.TheVariants.{Word}
use Rattle.kpn_model.specs.Network.{Network, family_of}
use Rattle.kpn_flow.specs.Events.{Fed, Happens}
use Rattle.kpn_flow.proofs.Batches.{one_more}
use Rattle.kpn_flow.proofs.flow.Flow.feed_all.Goals as goal

pub loop-fed-preserved : goal.loop-fed-preserved
loop-fed-preserved g c =
    let kinds = family_of g.B.Kinds.Kinds.start g.B.Kinds.Kinds.answer_of in
    let s = c.args.self.now in
    let before = c.loop-fed.invariant in
    record {
      same = record {
        network = c.feed.ensures.same.network ∙ before.same.network;
        inputs = c.feed.ensures.same.inputs ∙ before.same.inputs;
        unended = c.feed.ensures.same.unended ∙ before.same.unended;
        outputs = c.feed.ensures.same.outputs ∙ before.same.outputs;
      };
      counts = c.feed.ensures.counts ∙ before.counts;
      few = omega (arith, c.loop-fed-test.true);
      flows = one_more kinds s.network (λ t. Fed c.args.channel t) c.args.batch.now c.loop-fed.fed (Word 0) s.state c.loop-fed.self.state c.feed.new.self.state c.loop-fed-test.true before.flows
          (subst (λ (n : Network). Happens kinds n c.loop-fed.self.state (Fed c.args.channel (get_or c.args.batch.now c.loop-fed.fed (Word 0))) c.feed.new.self.state) before.same.network (c.if-not-feed.ensures.fed refl));
    }
