-- The first records are taken, and their tokens are fed.
use Rattle.std.proofs.Common.{◌≡◌, ◌≤◌, true, length, refl, sym, ◌∙◌, subst, arith}
use Rattle.kpn_model.specs.Network.{family_of}
use Rattle.kpn_flow.specs.Flows.{is_among}
use Rattle.hox_stream.proofs.Batched.{pours_batch}
use Rattle.hox_stream.proofs.Flowed.{pours_none}
use Rattle.hox_stream.proofs.Gathered.{not_read_by}
use Rattle.hox_stream.proofs.Reading.{not_read_same}
use Rattle.hox_stream.proofs.pouring.take_batch.Goals as goal

pub returns-then-not-is_input : goal.returns-then-not-is_input
returns-then-not-is_input g c = record { pours = pours_none (family_of g.B.Kinds.Kinds.start g.B.Kinds.Kinds.answer_of) _ _ _ _ refl refl; unread = not_read_same _ }

pub returns-then-ne : goal.returns-then-ne
returns-then-ne g c = record { pours = pours_none (family_of g.B.Kinds.Kinds.start g.B.Kinds.Kinds.answer_of) _ _ _ _ refl refl; unread = not_read_same _ }

pub returns : goal.returns
returns g c = record {
  pours =
      let open_input : is_among c.args.flow.now.unended c.args.inlet.now.channel ≡ true = subst (λ n. is_among c.args.flow.now.unended n ≡ true) c.channel-channel.ensures (sym c.is_input.ensures ∙ c.if-not-is_input.false) in
      let some : c.gather-count.result ≤ length c.gather-count.new.tokens = omega (arith, c.gather-count.ensures.few, c.gather-count.auto.tokens) in
      pours_batch (family_of g.B.Kinds.Kinds.start g.B.Kinds.Kinds.answer_of) _ _ _ _ c.gather-count.new.tokens c.gather-count.new.ends c.gather-count.result c.feed_all-fed.result c.end_of.result c.feed_all-fed.ensures.same (rw (c.kept.ensures.layout, c.kept.ensures.sort, c.kept.ensures.bytes) at c.gather-count.ensures.gathers) some
      c.feed_all-fed.ensures.few (rw c.channel-channel.ensures at c.feed_all-fed.ensures.fed) (c.assure_one_run.ensures.unended c.args.inlet.now.channel open_input) c.end_of.ensures c.pass.ensures;
  unread = not_read_by _ _ c.end_of.result c.feed_all-fed.result c.pass.ensures;
}
