-- A ready process may go out.
use Rattle.std.proofs.Common.{sym, ◌∙◌, refl, arith}
use Rattle.std.specs.Option.{option_map}
use Rattle.std.proofs.lemmas.List.{map-set, length-map}
use Rattle.kpn_machine.proofs.Listed.{waiting_moved}
use Rattle.kpn_machine.proofs.Sound.{sound_taken, none_of, some_of}
use Rattle.kpn_machine.proofs.machine.Machine.take.Goals as goal

pub invariant_of-self-2 : goal.invariant_of-self-2
invariant_of-self-2 g c = (
  rw (c.in_ok-process.ensures.some.out, c.take_out.ensures.bodies, map-set) (sound_taken c.self.invariant.0 c.in_ok-process.process (none_of _ (sym c.is_some.ensures ∙ c.if-is_some.false)) c.in_ok-process.ensures.some.was.ready),
  c.self.invariant.1,
  rw c.in_ok-process.ensures.some.out (waiting_moved c.self.invariant.2 c.in_ok-process.process _ (rw c.in_ok-process.ensures.some.was.ready) refl),
)

pub take_out-requires-clause-may : goal.take_out-requires-clause-may
take_out-requires-clause-may g c κs within =
    let sound = c.self.invariant.0 in
    let ready = c.in_ok-process.ensures.some.was.ready in
    record {
      process = omega (arith, c.in_ok-process.ensures.some.was.within, sound.keeps.one_each, sound.keeps.processes);
      live = λ e. let stopped = sound.keeps.done c.in_ok-process.process e in cc;
      well_typed = sound.keeps.well_typed;
      has_body = sound.has_bodies c.in_ok-process.process (omega (arith, c.in_ok-process.ensures.some.was.within, sound.keeps.one_each)) (λ e. cc);
    }

pub take_out-requires-clause-bodies : goal.take_out-requires-clause-bodies
take_out-requires-clause-bodies g c κs within =
    let sound = c.self.invariant.0 in
    omega (arith, c.in_ok-process.ensures.some.was.within, sound.keeps.one_each, sound.many_bodies, length-map c.self.inside.bodies.items (option_map g.B.Body.card))

pub returns-then-is_some-clause-none : goal.returns-then-is_some-clause-none
returns-then-is_some-clause-none g c = rw (← c.self.view_is) (λ none. absurd (some_of _ (sym c.is_some.ensures ∙ c.if-is_some.true) none))

pub returns-clause-some : goal.returns-clause-some
returns-clause-some g c =
    rw (← c.self.view_is) (
      none_of _ (sym c.is_some.ensures ∙ c.if-is_some.false),
      rw (c.take_out.ensures.process, c.in_ok-process.ensures.some.out) (record { ready = c.in_ok-process.ensures.some.was.ready; card = c.take_out.ensures.card; live = c.take_out.ensures.live; after = refl }),
    )
