-- One name more, or one that no channel has.
use Rattle.std.proofs.Common.{◌≡◌, ◌++◌, ◌∷◌, [], inr, refl, rules, arith}
use Rattle.std.proofs.lemmas.Grind.{common_steps}
use Rattle.hox_run.proofs.Named.{lacks, named_more, within_more}
use Rattle.hox_run.proofs.serving.channels_in.Goals as goal

pub returns-in_default-clause-missing : goal.returns-in_default-clause-missing
returns-in_default-clause-missing g c =
    inr (c.loop-k.k, refl, lacks c.index-texts-k.result.written c.args.net.now c.args.texts.now c.loop-k.k c.index-texts-k.result c.loop-k-test.true c.index-texts-k.is c.in_default.ensures.none)

pub loop-k-preserved : goal.loop-k-preserved
loop-k-preserved g c =
    let net = c.args.net.now in
    let l = c.loop-k in
    let pushed : c.push.new.self.items ≡ l.channels.items ++ c.in-Some.channel ∷ [] = search rules in
    record {
      named = named_more c.in-Some.channel.written net c.args.texts.now l.k c.index-texts-k.result l.channels.items c.push.new.self.items c.in-Some.channel c.loop-k-test.true c.index-texts-k.is l.invariant.named pushed c.in-Some.ensures.named;
      within = within_more c.in-Some.channel.written net c.args.texts.now l.channels.items c.push.new.self.items c.in-Some.channel l.invariant.within pushed c.in-Some.ensures.within;
    }

pub returns-clause-named : goal.returns-clause-named
returns-clause-named g c = grind (arith, common_steps)
