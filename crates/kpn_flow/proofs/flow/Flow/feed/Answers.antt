-- A token that comes in is an event.
use Rattle.std.proofs.Common.{◌≡◌, ◌<◌, ◌++◌, ◌∷◌, [], length, map, refl, ap, arith, true}
use Rattle.std.specs.Option.{option_map}
use Rattle.kpn_model.specs.Network.{family_of}
use Rattle.kpn_model.specs.Semantics.{tokens, capacity, with_channel}
use Rattle.kpn_state.specs.StateAndHistory.{StateAndHistory}
use Rattle.kpn_state.proofs.Contradictions.{true_false}
use Rattle.kpn_flow.specs.Events.{Fed}
use Rattle.kpn_flow.specs.Flows.{is_among}
use Rattle.kpn_flow.proofs.Kept.{flowing_on}
use Rattle.kpn_flow.proofs.flow.Flow.feed.Goals as goal

pub invariant_of-self : goal.invariant_of-self
invariant_of-self g c =
    let kinds = family_of g.B.Kinds.Kinds.start g.B.Kinds.Kinds.answer_of in
    let net = c.self.inside.net in
    let M = c.self.inside.core.store.state in
    let inputs = c.self.inside.inputs.items in
    let unended = c.self.inside.unended.items in
    let flow = c.self.invariant.0 in
    let going : is_among unended c.args.channel ≡ true = rw (← c.self.view_is) at c.requires.input in
    let input : is_among inputs c.args.channel ≡ true = flow.unended c.args.channel going in
    let there = (flow.ends.only_fed c.args.channel input).0 in
    let within : c.args.channel < length M.channels = omega (arith, there, flow.fits.keeps.channels) in
    let leaves : c.feed.new.core.store.state ≡ with_channel M c.args.channel (tokens M c.args.channel ++ c.args.token ∷ []) (capacity M c.args.channel) = ap (λ (x : StateAndHistory). x.state) c.feed.ensures.store in
    let space : length (tokens M c.args.channel) < capacity M c.args.channel = omega (arith, c.tokens_and_capacity-held.ensures.tokens, c.tokens_and_capacity-held.ensures.capacity, c.if-held-capacity.false) in (
      flowing_on kinds g.B.Kinds.Kinds.admits net inputs unended c.self.inside.outputs.items M c.feed.new.core.store.state c.self.inside.core.standings c.feed.new.core.standings (map (option_map g.B.Body.card) c.self.inside.bodies.items) c.self.inside.core.store.limit c.feed.new.core.store.limit c.self.inside.counts (Fed c.args.channel c.args.token) flow
          (within, space, leaves) (input, tt) refl (record { keeps = c.feed.ensures.coherent.keeps; none_out = λ q e. flow.fits.none_out q (c.feed.ensures.none_sent q e) }) (ap (λ (x : StateAndHistory). x.limit) c.feed.ensures.store),
      c.feed.ensures.coherent.waiting,
    )

pub tokens_and_capacity-held-requires : goal.tokens_and_capacity-held-requires
tokens_and_capacity-held-requires g c =
    let flow = c.self.invariant.0 in
    let going : is_among c.self.inside.unended.items c.args.channel ≡ true = rw (← c.self.view_is) at c.requires.input in
    let there = (flow.ends.only_fed c.args.channel (flow.unended c.args.channel going)).0 in
    omega (arith, there, flow.fits.keeps.channels)

pub feed-requires-after_bounds : goal.feed-requires-after_bounds
feed-requires-after_bounds g c κs within =
    let flow = c.self.invariant.0 in
    let going : is_among c.self.inside.unended.items c.args.channel ≡ true = rw (← c.self.view_is) at c.requires.input in
    record {
      coherent = record { keeps = flow.fits.keeps; waiting = c.self.invariant.1 };
      channel = (flow.ends.only_fed c.args.channel (flow.unended c.args.channel going)).0;
      sort = rw (← c.self.view_is) at c.requires.sort;
      space = omega (arith, c.tokens_and_capacity-held.ensures.tokens, c.tokens_and_capacity-held.ensures.capacity, c.if-held-capacity.false);
    }

pub returns : goal.returns
returns g c =
    let flow = c.self.invariant.0 in
    let going : is_among c.self.inside.unended.items c.args.channel ≡ true = rw (← c.self.view_is) at c.requires.input in
    let there = (flow.ends.only_fed c.args.channel (flow.unended c.args.channel going)).0 in
    rw (← c.self.view_is)
    (record {
      same = record { network = refl; inputs = refl; unended = refl; outputs = refl };
      counts = refl;
      fed = λ _. (
        omega (arith, there, flow.fits.keeps.channels),
        omega (arith, c.tokens_and_capacity-held.ensures.tokens, c.tokens_and_capacity-held.ensures.capacity, c.if-held-capacity.false),
        ap (λ (x : StateAndHistory). x.state) c.feed.ensures.store,
      );
      full = λ e. absurd (true_false _ refl e);
    })
