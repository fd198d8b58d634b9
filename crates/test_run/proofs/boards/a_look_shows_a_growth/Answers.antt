-- What is published first goes on from nothing, and what follows from that.
use Rattle.std.proofs.Common.{◌≡◌, [], ◌∷◌, ap, rules}
use Rattle.kpn_watch.proofs.Fronts.{prefix_of_front}
use Rattle.test_run.proofs.boards.a_look_shows_a_growth.Goals as goal

pub publish-requires-clause-may : goal.publish-requires-clause-may
publish-requires-clause-may g =
    let none : g.split.new.publisher.entries ≡ [] = search rules in
    record { board_is = search rules; goes_on = prefix_of_front _ [] _ none; short = search rules; ended = search rules }

pub publish-requires-2-clause-may : goal.publish-requires-2-clause-may
publish-requires-2-clause-may g =
    record { board_is = search rules; goes_on = prefix_of_front _ (_ ∷ []) _ (ap (λ p. p.entries) g.publish.ensures); short = search rules; ended = search rules }
