-- A name with a number behind it is no copy's.
use Rattle.std.proofs.Common.{sym}
use Rattle.kpn_picture.proofs.Spaced.{numbered_is_no_copy}
use Rattle.kpn_picture.proofs.points.is_copy.Goals as goal

pub returns-in-Some : goal.returns-in-Some
returns-in-Some c = rw c.in-Some.is (sym (numbered_is_no_copy c.args.word.now _))
