-- After the last channel the lines are those of all.
use Rattle.std.proofs.Common.{rules}
use Rattle.kpn_picture.proofs.edges.push_channels.Goals as goal

pub returns : goal.returns
returns g c = search rules
