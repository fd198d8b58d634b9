-- Where it goes on, the flow stays one.
use Rattle.std.proofs.Common.{map, refl, arith}
use Rattle.std.specs.Option.{option_map}
use Rattle.kpn_model.specs.Network.{family_of}
use Rattle.kpn_flow.proofs.Kept.{flowing_run}
use Rattle.kpn_flow.proofs.flow.Flow.advance.Goals as goal

pub invariant_of-self : goal.invariant_of-self
invariant_of-self g c =
    let a = c.go_on.ensures.advances in (
      flowing_run (family_of g.B.Kinds.Kinds.start g.B.Kinds.Kinds.answer_of) g.B.Kinds.Kinds.admits c.self.inside.net c.self.inside.inputs.items c.self.inside.unended.items c.self.inside.outputs.items _ _ c.self.inside.core.store.state c.go_on.new.core.store.state c.self.inside.core.standings c.go_on.new.core.standings (map (option_map g.B.Body.card) c.self.inside.bodies.items) c.self.inside.core.store.limit c.go_on.new.core.store.limit c.self.inside.counts c.go_on.new.counts a.entries c.self.invariant.0
          a.run a.counts c.go_on.ensures.settled.fits c.go_on.ensures.limit,
      c.go_on.ensures.settled.waiting,
    )

pub go_on-requires-clause-settled : goal.go_on-requires-clause-settled
go_on-requires-clause-settled g c κs within = record { fits = c.self.invariant.0.fits; waiting = c.self.invariant.1 }

pub go_on-requires-clause-room : goal.go_on-requires-clause-room
go_on-requires-clause-room g c κs within = omega (arith, c.self.invariant.0.limit_is)

pub returns-clause-same : goal.returns-clause-same
returns-clause-same g c = rw (← c.self.view_is) (record { network = refl; inputs = refl; unended = refl; outputs = refl })

pub returns-clause-advances : goal.returns-clause-advances
returns-clause-advances g c = rw (← c.self.view_is) (rw (c.as_slice.ensures.value, c.as_slice-2.ensures.value) at c.go_on.ensures.advances)

pub returns-clause-told : goal.returns-clause-told
returns-clause-told g c = c.go_on.ensures.told
