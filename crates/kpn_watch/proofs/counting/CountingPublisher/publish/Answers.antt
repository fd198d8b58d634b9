-- The growths so far, and those among the new entries.
use Rattle.std.proofs.Common.{length, sym, ap, subst, ◌∙◌, arith}
use mathlib.Core.List.{IsPrefix}
use Rattle.kpn_model.specs.History.{growths as growths_of}
use Rattle.kpn_watch.specs.Boards.{Published}
use Rattle.kpn_watch.proofs.CountedGrowths.{told}
use Rattle.kpn_watch.proofs.Words.{growths_le}
use Rattle.kpn_watch.proofs.counting.CountingPublisher.publish.Goals as goal

pub overflow_add-growths : goal.overflow_add-growths
overflow_add-growths c =
    let goes_on = subst (λ (p : Published). IsPrefix p.entries c.args.history.now) (sym c.self.view_is) c.requires.goes_on in
    let all = told _ _ _ _ _ c.self.invariant.0 c.self.invariant.1 goes_on c.growths_in-more.ensures in
    omega (arith, all, growths_le c.args.history.now, c.requires.short)

pub overflow_cast-self : goal.overflow_cast-self
overflow_cast-self c =
    let goes_on = subst (λ (p : Published). IsPrefix p.entries c.args.history.now) (sym c.self.view_is) c.requires.goes_on in
    let all = told _ _ _ _ _ c.self.invariant.0 c.self.invariant.1 goes_on c.growths_in-more.ensures in
    omega (arith, all, growths_le c.args.history.now, c.requires.short)

pub publish-requires-clause-counted : goal.publish-requires-clause-counted
publish-requires-clause-counted c =
    let goes_on = subst (λ (p : Published). IsPrefix p.entries c.args.history.now) (sym c.self.view_is) c.requires.goes_on in
    told _ _ _ _ _ c.self.invariant.0 c.self.invariant.1 goes_on c.growths_in-more.ensures

pub invariant_of-self : goal.invariant_of-self
invariant_of-self c =
    let goes_on = subst (λ (p : Published). IsPrefix p.entries c.args.history.now) (sym c.self.view_is) c.requires.goes_on in
    let all = told _ _ _ _ _ c.self.invariant.0 c.self.invariant.1 goes_on c.growths_in-more.ensures in
    let entries = ap (λ (p : Published). p.entries) c.publish.ensures in (
      ap length (sym entries),
      all ∙ ap (λ es. length (growths_of es)) (sym entries),
      ap (λ (p : Published). p.phase) (sym c.publish.ensures),
      omega (arith, ap length entries, c.requires.short),
    )
