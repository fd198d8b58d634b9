-- A process whose task comes back is ready, with its body.
use Rattle.std.specs.Option.{option_map}
use denote.Param.Send.{sendable}
use Rattle.std.proofs.Common.{refl, arith}
use Rattle.std.proofs.lemmas.List.{map-set, length-map}
use Rattle.kpn_machine.specs.MachineView.{IsOutAt}
use Rattle.kpn_machine.proofs.Listed.{waiting_moved}
use Rattle.kpn_machine.proofs.Sound.{sound_returned, out_within}
use Rattle.kpn_machine.proofs.machine.Machine.take_back.Goals as goal

pub invariant_of-self : goal.invariant_of-self
invariant_of-self g c =
    let out : IsOutAt c.self.inside.net c.self.inside.core.store.state c.self.inside.core.standings c.args.task = rw (← c.self.view_is) at c.requires in (
      rw (map-set, c.lay_back.ensures, c.process-process.ensures, c.into_body.ensures) (sound_returned c.self.invariant.0 c.args.task out),
      c.self.invariant.1,
      rw (c.lay_back.ensures, c.process-process.ensures) (waiting_moved c.self.invariant.2 c.args.task.process _ (rw out.out) refl),
    )

pub lay_back-requires : goal.lay_back-requires
lay_back-requires g c =
    let out : IsOutAt c.self.inside.net c.self.inside.core.store.state c.self.inside.core.standings c.args.task = rw (← c.self.view_is) at c.requires in
    rw c.process-process.ensures (out_within c.self.invariant.0 c.args.task out)

pub returns : goal.returns
returns g c = rw (← c.self.view_is, c.lay_back.ensures, c.process-process.ensures) refl

pub into_body-requires : goal.into_body-requires
into_body-requires g c = search sendable

pub process-process-requires : goal.process-process-requires
process-process-requires g c = search sendable

pub index_mut-requires : goal.index_mut-requires
index_mut-requires g c =
    let out : IsOutAt c.self.inside.net c.self.inside.core.store.state c.self.inside.core.standings c.args.task = rw (← c.self.view_is) at c.requires in
    let sound = c.self.invariant.0 in
    rw c.process-process.ensures (omega (arith, out_within sound c.args.task out, sound.keeps.one_each, sound.many_bodies, length-map c.self.inside.bodies.items (option_map g.B.Body.card), c.self.inside.bodies.ok.0))
