-- The picture is that of the network, or of a run of it.
use Rattle.std.proofs.Common.{rules}
use Rattle.hox_draw.proofs.drawing.draw_prepared.Goals as goal

pub returns-then-not-wanted-clause-drawn : goal.returns-then-not-wanted-clause-drawn
returns-then-not-wanted-clause-drawn g c = search rules

pub returns-in-Ok-clause-drawn : goal.returns-in-Ok-clause-drawn
returns-in-Ok-clause-drawn g c = search rules

pub returns-in-Err-Lost-clause-fault : goal.returns-in-Err-Lost-clause-fault
returns-in-Err-Lost-clause-fault g c = search rules
