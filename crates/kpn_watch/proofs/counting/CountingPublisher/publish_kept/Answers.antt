-- There are no more growths than entries.
use Rattle.std.proofs.Common.{length, sym, ap, ◌∙◌, arith}
use Rattle.kpn_model.specs.History.{growths as growths_of}
use Rattle.kpn_watch.specs.Boards.{Published}
use Rattle.kpn_watch.proofs.Words.{growths_le}
use Rattle.kpn_watch.proofs.counting.CountingPublisher.publish_kept.Goals as goal

pub overflow_cast-growths : goal.overflow_cast-growths
overflow_cast-growths g c = omega (arith, growths_le (g.H.Keeper.entries c.args.kept.now), c.requires.may.short, c.requires.counted)

pub invariant_of-self : goal.invariant_of-self
invariant_of-self g c =
    let entries = ap (λ (p : Published). p.entries) c.publish_kept.ensures in (
      c.count-entries.ensures.count ∙ ap length (sym entries),
      c.requires.counted ∙ ap (λ es. length (growths_of es)) (sym entries),
      ap (λ (p : Published). p.phase) (sym c.publish_kept.ensures),
      omega (arith, ap length entries, c.requires.may.short),
    )
