-- How the flow stands, and the text that is made of it.
use Rattle.std.proofs.Common.{rules}
use Rattle.hox_handle.proofs.session.Session.report.Goals as goal

pub returns : goal.returns
returns c = record { stand = c.stand.result; stands = rw (← c.self.view_is) c.stand.ensures; text_is = search rules }
