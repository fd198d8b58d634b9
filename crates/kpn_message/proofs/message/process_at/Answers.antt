use Rattle.kpn_message.proofs.Items.{lent_is}
use Rattle.kpn_message.proofs.message.process_at.Goals as goal

pub returns : goal.returns
returns c = rw (← c.as_slice.ensures) (lent_is c.as_slice.result.now c.args.p c.get.result c.get.ensures.lookup)
