-- The first task that had no answer has one.
use Rattle.std.proofs.Common.{◌≡◌, ◌<◌, ◌+◌, ◌∷◌, [], ◌∙◌, ◌-◌, ap, sym, refl, arith, length, length-append, get_or, Some}
use Rattle.kpn_monitor.proofs.Placing.{left_many, next_task, next_taken, call_laid}
use Rattle.kpn_monitor.proofs.places.Places.call.Goals as goal

pub returns-then-place-len : goal.returns-then-place-len
returns-then-place-len g c =
    let many = left_many c.self.invariant.0 in
    let within = c.self.invariant.0.within in
    let all : length c.self.inside.answers.items ≡ length c.self.inside.places.items = omega (arith, c.if-place-len.true, c.len.ensures, c.len-place.ensures) in
    (rw (← c.self.view_is) (ap (λ n. n - c.self.inside.given) all ∙ sym many), refl)

pub unreachable-requires : goal.unreachable-requires
unreachable-requires g c =
    let here : c.len-place.result ≡ length c.self.inside.answers.items = omega (arith, c.len-place.ensures) in
    next_taken c.self.invariant.0 c.index.result.now (omega (arith, c.if-place-len.false, c.len.ensures, c.len-place.ensures)) (rw (← here) (sym c.index.ensures ∙ c.in_default.is))

pub invariant_of-self : goal.invariant_of-self
invariant_of-self g c =
    let below : length c.self.inside.answers.items < length c.self.inside.places.items = omega (arith, c.if-place-len.false, c.len.ensures, c.len-place.ensures) in
    let here : c.len-place.result ≡ length c.self.inside.answers.items = omega (arith, c.len-place.ensures) in
    let at : get_or c.self.inside.places.items (length c.self.inside.answers.items) c.index.result.now ≡ Some c.in-Some.task = rw (← here) (sym c.index.ensures ∙ c.in-Some.is) in
    (rw c.push_reserved.ensures.items (call_laid c.self.invariant.0 c.in-Some.task c.index.result.now c.ask.result below at c.ask.ensures), c.self.invariant.1, omega (arith, c.push_reserved.ensures.capacity, c.self.invariant.2), c.self.invariant.3)

pub returns : goal.returns
returns g c =
    let many = left_many c.self.invariant.0 in
    let called = c.self.invariant.0.called in
    let below : length c.self.inside.answers.items < length c.self.inside.places.items = omega (arith, c.if-place-len.false, c.len.ensures, c.len-place.ensures) in
    let here : c.len-place.result ≡ length c.self.inside.answers.items = omega (arith, c.len-place.ensures) in
    let at : get_or c.self.inside.places.items (length c.self.inside.answers.items) c.index.result.now ≡ Some c.in-Some.task = rw (← here) (sym c.index.ensures ∙ c.in-Some.is) in
    let more : length c.push_reserved.new.self.items - c.self.inside.given ≡ length c.self.inside.answers.items - c.self.inside.given + 1 = omega (arith, ap length c.push_reserved.ensures.items, length-append c.self.inside.answers.items (c.ask.result ∷ [])) in (
      c.in-Some.task,
      rw (← c.self.view_is) (next_task c.self.invariant.0 c.in-Some.task c.index.result.now below at),
      sym c.process-process.ensures,
      rw (← c.self.view_is) (omega arith),
      rw (← c.self.view_is, more) refl,
    )
