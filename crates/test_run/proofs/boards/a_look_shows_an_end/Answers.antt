-- What is published first goes on from nothing.
use Rattle.std.proofs.Common.{◌≡◌, [], rules}
use Rattle.kpn_watch.proofs.Fronts.{prefix_of_front}
use Rattle.test_run.proofs.boards.a_look_shows_an_end.Goals as goal

pub publish-requires-clause-may : goal.publish-requires-clause-may
publish-requires-clause-may g =
    let none : g.split.new.publisher.entries ≡ [] = search rules in
    record { board_is = search rules; goes_on = prefix_of_front _ [] _ none; short = search rules; ended = search rules }
