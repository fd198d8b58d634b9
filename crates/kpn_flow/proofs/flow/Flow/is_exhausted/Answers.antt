-- Where each process has stopped or waits for a token, nothing more is done.
use Rattle.std.proofs.Common.{sym, ◌∙◌}
use Rattle.kpn_model.specs.Network.{family_of}
use Rattle.kpn_flow.proofs.Waiting.{exhausted}
use Rattle.kpn_flow.proofs.flow.Flow.is_exhausted.Goals as goal

pub returns-clause-exhausted : goal.returns-clause-exhausted
returns-clause-exhausted g c = rw (← c.self.view_is) (λ e.
    exhausted (family_of g.B.Kinds.Kinds.start g.B.Kinds.Kinds.answer_of) g.B.Kinds.Kinds.admits c.self.inside.net c.self.inside.core.store.state c.self.inside.core.standings c.self.invariant.0.fits.keeps
    (rw c.as_slice.ensures.value at (sym c.all_wait_to_read.ensures ∙ e)))
