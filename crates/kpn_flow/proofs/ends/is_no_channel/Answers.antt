-- Found without an answer too; with it a wrong body is refused at once.
use Rattle.std.proofs.Common.{rules}
use Rattle.kpn_flow.proofs.ends.is_no_channel.Goals as goal

pub returns : goal.returns
returns g c = search rules
