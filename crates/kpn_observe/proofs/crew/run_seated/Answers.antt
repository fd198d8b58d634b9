-- All seats come back, so the monitor closes.
use Rattle.std.proofs.Common.{arith}
use Rattle.kpn_run.proofs.Slots.{not_refused}
use Rattle.kpn_observe.proofs.crew.run_seated.Goals as goal

pub unreachable-requires : goal.unreachable-requires
unreachable-requires g c =
    not_refused _ _ c.in-Err.is (c.close.ensures.whole (omega (arith, c.gather.ensures, c.requires.parts, c.work_all.ensures)))
