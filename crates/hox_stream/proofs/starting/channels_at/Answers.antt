-- One name more: its channel, and the process at the outer end of that.
use Rattle.std.proofs.Common.{◌≡◌, ◌<◌, ◌++◌, ◌∷◌, Some, None, [], true, false, not, length, sym, ap, ◌∙◌, subst, rules, arith}
use Rattle.std.proofs.lemmas.Grind.{common_steps}
use Rattle.std.proofs.lemmas.List.{length-map}
use Rattle.kpn_model.specs.declared.parts.Process.{Process}
use Rattle.kpn_model.specs.Network.{family_of, channel_of, number_of_channel}
use Rattle.kpn_flow.specs.Ends.{is_no_channel, stops_at_once}
use Rattle.hox_stream.specs.Starts.{cards_in, is_busy, outer_process}
use Rattle.hox_stream.proofs.Started.{at_name, named_more, none_more}
use Rattle.hox_stream.proofs.starting.channels_at.Goals as goal

pub loop-k-preserved : goal.loop-k-preserved
loop-k-preserved g c =
    let kinds = family_of g.B.Kinds.Kinds.start g.B.Kinds.Kinds.answer_of in
    let before = c.loop-k.invariant in
    let channel = c.in-Some.channel in
    let at = at_name c.args.net.now c.args.ends.now.names.now c.loop-k.k c.index-ends-k.result c.as_str.result.now (Some channel) c.loop-k-test.true c.index-ends-k.is (c.as_str.ensures ∙ sym c.index-ends-k.is) c.in-Some.ensures.is in
    let stops : stops_at_once kinds (cards_in c.args.net.now) (outer_process c.args.ends.now.way (channel_of c.args.net.now channel)) ≡ true = rw (← c.outer_process-process.ensures.is, ← c.requires) (sym c.stops_at_once.ensures ∙ c.if-not-stops_at_once.false) in
    let is : c.push.new.self.items ≡ c.loop-k.channels.items ++ channel ∷ [] = grind (arith, common_steps) in
    record {
      named = named_more (number_of_channel c.args.net.now) c.args.ends.now.names.now c.loop-k.k c.loop-k.channels.items channel c.push.new.self.items c.loop-k-test.true before.named at is;
      within = none_more (is_no_channel c.args.net.now) c.loop-k.channels.items channel c.push.new.self.items before.within (grind (arith, common_steps)) is;
      idle = none_more (is_busy kinds c.args.net.now c.args.ends.now.way) c.loop-k.channels.items channel c.push.new.self.items before.idle (ap not stops) is;
    }

pub stops_at_once-requires : goal.stops_at_once-requires
stops_at_once-requires g c =
    let long : length c.args.bodies.now ≡ length c.args.net.now.processes = sym (length-map c.args.bodies.now g.B.Body.card) ∙ ap length c.requires ∙ length-map c.args.net.now.processes (λ (x : Process). x.card) in
    let within : c.outer_process-process.result < length c.args.bodies.now = subst (λ n. c.outer_process-process.result < n) (sym long) c.outer_process-process.ensures.within in
    search (rules, within)

pub returns-in_default-clause-fault : goal.returns-in_default-clause-fault
returns-in_default-clause-fault g c = (c.loop-k-test.true, at_name c.args.net.now c.args.ends.now.names.now c.loop-k.k c.index-ends-k.result c.as_str.result.now None c.loop-k-test.true c.index-ends-k.is (c.as_str.ensures ∙ sym c.index-ends-k.is) c.in_default.ensures.is)

pub returns-then-not-stops_at_once-clause-fault : goal.returns-then-not-stops_at_once-clause-fault
returns-then-not-stops_at_once-clause-fault g c =
    let kinds = family_of g.B.Kinds.Kinds.start g.B.Kinds.Kinds.answer_of in
    let goes_on : stops_at_once kinds (cards_in c.args.net.now) (outer_process c.args.ends.now.way (channel_of c.args.net.now c.in-Some.channel)) ≡ false = rw (← c.outer_process-process.ensures.is, ← c.requires) (sym c.stops_at_once.ensures ∙ c.if-not-stops_at_once.true) in
    let at = at_name c.args.net.now c.args.ends.now.names.now c.loop-k.k c.index-ends-k.result c.as_str.result.now (Some c.in-Some.channel) c.loop-k-test.true c.index-ends-k.is (c.as_str.ensures ∙ sym c.index-ends-k.is) c.in-Some.ensures.is in
    (c.loop-k-test.true, (c.in-Some.channel, at, ap not goes_on, rw (← c.outer_process-process.ensures.is) c.in-Ok.ensures))

pub returns-clause-named : goal.returns-clause-named
returns-clause-named g c = grind (arith, common_steps)
