-- Word by word.
use Rattle.std.proofs.Common.{refl, arith, ap, sym, ◌∙◌, subst, true, ◌≡◌, List, ℕ}
use Rattle.kpn_model.specs.Families.{family}
use Rattle.kpn_model.specs.Network.{Network, channel_of}
use Rattle.kpn_flow.specs.Flows.{is_among}
use Rattle.hox_handle.proofs.OneMore.{one_fed}
use Rattle.hox_handle.proofs.words.feed_words.Goals as goal

pub loop-count-preserved : goal.loop-count-preserved
loop-count-preserved g c =
    let before = c.loop-count.invariant in
    let same = c.feed.ensures.same in
    record {
      few = omega (arith, c.loop-count-test.true);
      fed = one_fed (family g.B.Kinds.Kinds) c.args.flow.now c.loop-count.flow c.feed.new.self c.args.channel same c.args.words.now c.loop-count.count c.in-Some.token c.loop-count-test.true c.in-Some.ensures.word c.feed.ensures.counts
          before.fed (c.if-not-feed.ensures.fed refl);
      input = subst (λ (l : List ℕ). is_among l c.args.channel ≡ true) (sym same.unended) before.input;
      sort_is = before.sort_is ∙ ap (λ (n : Network). (channel_of n c.args.channel).sort) (sym same.network);
    }
