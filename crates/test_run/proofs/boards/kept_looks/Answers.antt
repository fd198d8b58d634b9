-- What is published first is one entry, and goes on by two.
use Rattle.std.proofs.Common.{◌≡◌, ◌++◌, ◌∷◌, [], ◌∙◌, ap, sym, rules}
use Rattle.kpn_model.specs.declared.history.Entry.TheVariants.{Grew}
use Rattle.kpn_watch.proofs.Fronts.{prefix_of_front, prefix_trans}
use Rattle.kpn_watch.specs.Boards.{Published}
use Rattle.test_run.proofs.boards.kept_looks.Goals as goal

pub publish_kept-requires-clause-may : goal.publish_kept-requires-clause-may
publish_kept-requires-clause-may g c =
    let none : c.split.new.publisher.entries ≡ [] = search rules in
    record { board_is = search rules; goes_on = prefix_of_front _ [] (g.H.Keeper.entries c.keep.new.self) none; short = search rules; ended = search rules }

pub publish_kept-requires-2-clause-may : goal.publish_kept-requires-2-clause-may
publish_kept-requires-2-clause-may g c =
    let before = ap (λ (p : Published). p.entries) c.publish_kept.ensures in
    record {
      board_is = search rules;
      goes_on = prefix_trans _ (g.H.Keeper.entries c.keep-2.new.self) _ (Grew 0 2 ∷ [], ap (λ l. l ++ Grew 0 2 ∷ []) before ∙ sym c.keep-2.ensures.entries) (_ ∷ [], sym c.keep-3.ensures.entries);
      short = search rules;
      ended = search rules;
    }
