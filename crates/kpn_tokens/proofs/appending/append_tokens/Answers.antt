use Rattle.std.proofs.Common.{◌≡◌, ◌<◌, false, not, get_or, length, rules, ap, arith}
use Rattle.std.proofs.lemmas.Grind.{common_steps}
use Rattle.kpn_model.specs.declared.token.Token.{Token}
use Rattle.kpn_model.specs.declared.token.Token.TheVariants.{Word}
use Rattle.kpn_tokens.specs.Records.{clips, fits}
use Rattle.kpn_tokens.proofs.Places.{position_at}
use Rattle.kpn_tokens.proofs.appending.append_tokens.Goals as goal

pub returns-then-not-may_clip-clause-refused : goal.returns-then-not-may_clip-clause-refused
returns-then-not-may_clip-clause-refused c =
    λ place e.
    let layout = c.args.layout in
    let tokens = c.args.tokens.now in
    let unclipped : clips layout ≡ false = search rules in
    let within : c.loop-place.place < length tokens = search rules in
    let here : fits layout (get_or tokens c.loop-place.place (Word 0)) ≡ false = search rules in
    let before = c.loop-place.invariant.fit unclipped in
    let place_is : c.loop-place.place ≡ place = cc in
    rw (← place_is) (record {
      unclipped = unclipped;
      first_misfit = position_at (λ (token : Token). not (fits layout token)) tokens c.loop-place.place (Word 0) within (λ k h. ap not (before k h)) (ap not here);
      appended = c.loop-place.invariant.written;
    })

pub loop-place-preserved : goal.loop-place-preserved
loop-place-preserved c = grind (arith, common_steps)

pub returns-clause-appends : goal.returns-clause-appends
returns-clause-appends c = grind (arith, common_steps)

pub returns-clause-counted : goal.returns-clause-counted
returns-clause-counted c = grind (arith, common_steps)
