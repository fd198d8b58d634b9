-- The bodies are those that were boxed.
use Rattle.std.proofs.Common.{refl}
use Rattle.kpn_run.proofs.Refusals.{unboxed_back}
use Rattle.kpn_run.proofs.running.unboxed.Goals as goal

pub returns-in-NotRun : goal.returns-in-NotRun
returns-in-NotRun g c = λ net bodies workers handed.
    c.fault_of.ensures net bodies workers (unboxed_back g.B.Body.card net bodies _ _ refl c.unbox_all-bodies.ensures refl (rw c.in-NotRun.is at handed))
