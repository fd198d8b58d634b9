use Rattle.std.proofs.Common.{arith, ap, sym, ◌∙◌}
use Rattle.kpn_watch.specs.Boards.{Watched}
use Rattle.kpn_watch.specs.Shown.{shows}
use Rattle.test_callers.proofs.Rises.{entries_rise, growths_rise}
use Rattle.test_callers.proofs.look_twice.Goals as goal

pub returns-clause-entries : goal.returns-clause-entries
returns-clause-entries c =
    let first = ap (λ p. p.entries) c.look-first.ensures.shown in
    let second = ap (λ p. p.entries) c.look-second.ensures.shown in
    omega (arith, first, second, entries_rise _ _ c.look-second.ensures.goes_on)

pub returns-clause-growths : goal.returns-clause-growths
returns-clause-growths c =
    let first = ap (λ p. p.growths) c.look-first.ensures.shown in
    let second = ap (λ p. p.growths) c.look-second.ensures.shown in
    omega (arith, first, second, growths_rise _ _ c.look-second.ensures.goes_on)

pub returns-clause-ended : goal.returns-clause-ended
returns-clause-ended c =
    let first = c.look-first.ensures.shown in
    λ ended.
    c.look-second.ensures.shown ∙ ap (λ (w : Watched). shows w.entries w.phase) (c.look-second.ensures.ended (λ runs. ended (ap (λ p. p.phase) first ∙ runs))) ∙ sym first
