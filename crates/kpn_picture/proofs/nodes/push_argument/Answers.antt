-- An argument below 0 is carried as one less than its magnitude.
use Rattle.std.proofs.Common.{rules}
use Rattle.kpn_picture.proofs.nodes.push_argument.Goals as goal

pub returns-then-k-below : goal.returns-then-k-below
returns-then-k-below c = search rules
