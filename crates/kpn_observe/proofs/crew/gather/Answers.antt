-- The seats have all parts.
use Rattle.std.proofs.Common.{◌≡◌, arith, refl}
use Rattle.std.specs.List.{sum_by}
use Rattle.kpn_monitor.specs.Views.{Shares}
use Rattle.kpn_run.proofs.Slots.{sum_more}
use Rattle.kpn_observe.proofs.crew.gather.Goals as goal

pub returns : goal.returns
returns g c =
    let parts = λ (s : Shares). s.parts in
    let none : sum_by parts c.args.seats.now.items ≡ 0 = rw c.requires.0 refl in
    let rest = sum_more parts _ _ _ c.push_reserved.ensures.items in
    omega (arith, none, rest, c.leave_all.ensures)
