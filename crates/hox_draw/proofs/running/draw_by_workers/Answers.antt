-- A body fits each process.
use Rattle.std.proofs.Common.{ap, ◌∙◌, Err}
use Rattle.kpn_execute.proofs.Telling.{not_refused}
use Rattle.hox_draw.proofs.running.draw_by_workers.Goals as goal

pub unreachable-requires-in-Err-Open : goal.unreachable-requires-in-Err-Open
unreachable-requires-in-Err-Open g c =
    let misfit = rw (c.in-Err-Open.is ∙ ap (λ x. Err x) c.in-Err-Open.field-0-is) at c.run.ensures.failed in
    not_refused _ _ _ c.in-Ok.ensures misfit.2 misfit.3
