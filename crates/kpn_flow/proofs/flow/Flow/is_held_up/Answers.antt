-- A parked process can't do what it wants.
use Rattle.std.proofs.Common.{sym, ◌∙◌}
use Rattle.kpn_model.specs.Network.{family_of}
use Rattle.kpn_flow.proofs.Waiting.{held_there}
use Rattle.kpn_flow.proofs.flow.Flow.is_held_up.Goals as goal

pub returns-clause-blocked : goal.returns-clause-blocked
returns-clause-blocked g c = rw (← c.self.view_is) (λ e.
    held_there (family_of g.B.Kinds.Kinds.start g.B.Kinds.Kinds.answer_of) g.B.Kinds.Kinds.admits c.self.inside.net c.self.inside.core.store.state c.self.inside.core.standings c.self.invariant.0.fits.keeps c.args.channel
    (rw c.as_slice.ensures.value at (sym c.holds_up.ensures ∙ e)))
