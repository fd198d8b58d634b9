-- One worker loses no run.
use Rattle.std.proofs.Common.{rules}
use Rattle.hox_draw.proofs.running.draw_run.Goals as goal

pub draw_by_workers-requires : goal.draw_by_workers-requires
draw_by_workers-requires g c = search rules

pub returns-clause-lost : goal.returns-clause-lost
returns-clause-lost g c = search rules
