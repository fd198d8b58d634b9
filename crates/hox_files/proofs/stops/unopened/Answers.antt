-- The fault is the one that is made.
use Rattle.std.proofs.Common.{Some, ap}
use Rattle.hox_files.proofs.stops.unopened.Goals as goal

pub returns : goal.returns
returns c = ap Some c.unread.ensures.fault
