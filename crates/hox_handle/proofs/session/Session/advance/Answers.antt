-- What the flow's call says.
use Rattle.hox_handle.proofs.session.Session.advance.Goals as goal

pub returns : goal.returns
returns c = rw (← c.self.view_is) (record { same = c.advance.ensures.same; advances = c.advance.ensures.advances; told = c.advance.ensures.told })
