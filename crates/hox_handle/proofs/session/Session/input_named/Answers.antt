-- The list has the flow's inputs.
use Rattle.hox_handle.proofs.session.Session.input_named.Goals as goal

pub returns-clause-none : goal.returns-clause-none
returns-clause-none c = rw (← c.self.view_is) (rw (c.net.ensures, c.as_slice.ensures.value, c.self.invariant.0) at c.place_named.ensures.none)
