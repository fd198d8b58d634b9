-- What is published goes on by what is appended.
use Rattle.std.proofs.Common.{rules}
use Rattle.test_run.proofs.boards.Display.append.Goals as goal

pub publish-requires : goal.publish-requires
publish-requires g = record { board_is = search rules; goes_on = search rules; short = search rules; ended = search rules }
