-- A process waits to write to a channel.
use Rattle.std.proofs.Common.{rules}
use Rattle.kpn_picture.proofs.nodes.push_place.Goals as goal

pub returns-in-Some-Writes : goal.returns-in-Some-Writes
returns-in-Some-Writes g c = search rules
