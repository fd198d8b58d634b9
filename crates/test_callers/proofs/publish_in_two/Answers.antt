-- Each history goes on from the one before.
use Rattle.std.proofs.Common.{rules}
use Rattle.test_callers.proofs.publish_in_two.Goals as goal

pub publish-requires : goal.publish-requires
publish-requires c = record { board_is = search rules; goes_on = search rules; short = search rules; ended = search rules }

pub publish-requires-2 : goal.publish-requires-2
publish-requires-2 c = record { board_is = search rules; goes_on = search rules; short = search rules; ended = search rules }
