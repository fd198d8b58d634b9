-- Word by word.
use Rattle.std.proofs.Common.{arith, length-set, ◌∙◌, sym, subst, true, ◌≡◌, List, ℕ}
use Rattle.kpn_model.specs.Families.{family}
use Rattle.kpn_flow.specs.Flows.{is_among}
use Rattle.hox_handle.proofs.OneMore.{one_drained, rest_more}
use Rattle.hox_handle.proofs.words.drain_words.Goals as goal

pub loop-count-preserved : goal.loop-count-preserved
loop-count-preserved g c =
    let before = c.loop-count.invariant in
    let same = c.in-Some.ensures.same in
    let long = length-set c.loop-count.words c.loop-count.count c.word_of.result in
    record {
      few = omega (arith, long, c.loop-count-test.true);
      long = long ∙ before.long;
      drained = one_drained (family g.B.Kinds.Kinds) c.args.flow.now c.loop-count.flow c.drain.new.self c.args.channel same c.loop-count.words c.loop-count.count c.in-Some.token c.word_of.result c.loop-count-test.true c.word_of.ensures c.in-Some.ensures.counts
          before.drained c.in-Some.ensures.drained;
      rest = rest_more c.loop-count.words c.args.words.now c.loop-count.count c.word_of.result before.rest;
      output = subst (λ (l : List ℕ). is_among l c.args.channel ≡ true) (sym same.outputs) before.output;
    }
