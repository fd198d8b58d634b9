-- A record is taken, and its token is fed.
use Rattle.std.proofs.Common.{refl, arith}
use Rattle.std.proofs.lemmas.Grind.{common_steps}
use Rattle.kpn_model.specs.Network.{family_of}
use Rattle.kpn_tokens.specs.Records.{listed}
use Rattle.hox_stream.proofs.Flowed.{pours_none, same_net_of}
use Rattle.hox_stream.proofs.Ported.{takes_record}
use Rattle.hox_stream.proofs.Reading.{not_read_same}
use Rattle.hox_stream.proofs.pouring.take_said.Goals as goal

pub returns-then-not-feed_said : goal.returns-then-not-feed_said
returns-then-not-feed_said g c = record { pours = pours_none (family_of g.B.Kinds.Kinds.start g.B.Kinds.Kinds.answer_of) _ _ _ _ (c.if-not-feed_said.ensures.not refl) refl; unread = not_read_same _ }

pub returns : goal.returns
returns g c = record {
  pours = record {
    same = same_net_of _ _ c.feed_said.ensures.same;
    tokens = listed c.args.said;
    takes = takes_record _ _ c.args.used c.args.said c.requires.next c.requires.at_end (rw c.count_of.ensures at c.pass.ensures);
    flows = rw c.channel.ensures at (c.if-not-feed_said.ensures.flows refl);
    at_ends = rw c.channel.ensures at (c.if-not-feed_said.ensures.at_ends refl);
  };
  unread = grind (arith, common_steps);
}
