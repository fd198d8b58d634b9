-- The list has the flow's outputs.
use Rattle.hox_handle.proofs.session.Session.output_named.Goals as goal

pub returns-clause-none : goal.returns-clause-none
returns-clause-none c = rw (← c.self.view_is) (rw (c.net.ensures, c.as_slice.ensures.value, c.self.invariant.1) at c.place_named.ensures.none)
