-- A token that goes out is an event.
use Rattle.std.proofs.Common.{◌≡◌, drop, map, refl, ap, true, arith, rules}
use Rattle.std.proofs.lemmas.List.{nil_from_length}
use Rattle.std.specs.Option.{option_map}
use Rattle.kpn_model.specs.Network.{family_of}
use Rattle.kpn_model.specs.Semantics.{tokens, capacity, with_channel}
use Rattle.kpn_state.specs.StateAndHistory.{StateAndHistory}
use Rattle.kpn_flow.specs.Events.{Drained}
use Rattle.kpn_flow.specs.Flows.{is_among}
use Rattle.kpn_flow.proofs.Kept.{flowing_on}
use Rattle.kpn_flow.proofs.flow.Flow.drain.Goals as goal

pub invariant_of-self : goal.invariant_of-self
invariant_of-self g c =
    let kinds = family_of g.B.Kinds.Kinds.start g.B.Kinds.Kinds.answer_of in
    let net = c.self.inside.net in
    let M = c.self.inside.core.store.state in
    let outputs = c.self.inside.outputs.items in
    let flow = c.self.invariant.0 in
    let output : is_among outputs c.args.channel ≡ true = rw (← c.self.view_is) at c.requires in
    let leaves : c.drain-token.new.core.store.state ≡ with_channel M c.args.channel (drop 1 (tokens M c.args.channel)) (capacity M c.args.channel) = ap (λ (x : StateAndHistory). x.state) c.drain-token.ensures.wakes.store in (
      flowing_on kinds g.B.Kinds.Kinds.admits net c.self.inside.inputs.items c.self.inside.unended.items outputs M c.drain-token.new.core.store.state c.self.inside.core.standings c.drain-token.new.core.standings (map (option_map g.B.Body.card) c.self.inside.bodies.items) c.self.inside.core.store.limit c.drain-token.new.core.store.limit c.self.inside.counts (Drained c.args.channel c.drain-token.result) flow
          ((drop 1 (tokens M c.args.channel), c.drain-token.ensures.token), leaves) (output, tt) refl (record { keeps = c.drain-token.ensures.wakes.coherent.keeps; none_out = λ q e. flow.fits.none_out q (c.drain-token.ensures.wakes.none_sent q e) }) (ap (λ (x : StateAndHistory). x.limit) c.drain-token.ensures.wakes.store),
      c.drain-token.ensures.wakes.coherent.waiting,
    )

pub drain-token-requires-after_bounds : goal.drain-token-requires-after_bounds
drain-token-requires-after_bounds g c κs within =
    let flow = c.self.invariant.0 in
    let output : is_among c.self.inside.outputs.items c.args.channel ≡ true = rw (← c.self.view_is) at c.requires in
    record {
      coherent = record { keeps = flow.fits.keeps; waiting = c.self.invariant.1 };
      channel = (flow.ends.only_drained c.args.channel output).0;
      some = omega (arith, c.tokens_and_capacity-held.ensures.tokens);
    }

pub returns-then-held-eq0 : goal.returns-then-held-eq0
returns-then-held-eq0 g c = record {
  same = search rules;
  counts = search rules;
  drained = search rules;
  empty = rw (← c.self.view_is) (refl, nil_from_length _ (omega (arith, c.tokens_and_capacity-held.ensures.tokens)));
}

pub returns : goal.returns
returns g c = record {
  same = rw (← c.self.view_is) (record { network = refl; inputs = refl; unended = refl; outputs = refl });
  counts = rw (← c.self.view_is) refl;
  drained = rw (← c.self.view_is) ((_, c.drain-token.ensures.token), ap (λ (x : StateAndHistory). x.state) c.drain-token.ensures.wakes.store);
  empty = search rules;
}
