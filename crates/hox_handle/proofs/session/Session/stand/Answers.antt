-- What the flow's call says.
use Rattle.hox_handle.proofs.session.Session.stand.Goals as goal

pub returns : goal.returns
returns c = rw (← c.self.view_is) c.stand.ensures
