-- The picture is made of the parts of the report's detail, if it has one, and of nothing if not.
use Rattle.std.proofs.Common.{rules}
use Rattle.hox_draw.proofs.running.picture_of_report.Goals as goal
use Rattle.hox_draw.proofs.running.picture_of_report.Goals.{in-Some, in-None}

pub returns : goal.returns
returns g c = elim c.match-report.branch [ in-Some w ↦ search rules | in-None w ↦ search rules ]
