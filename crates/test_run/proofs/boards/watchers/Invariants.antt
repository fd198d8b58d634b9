use Rattle.std.proofs.Common.{◌≡◌, ◌≤◌}
use Rattle.test_run.proofs.boards.watchers.Given as goal

abbrev pub invariant-loop-tried : goal.invariant-loop-tried
invariant-loop-tried l = (l.publisher.board ≡ l.board) × (l.made ≤ l.tried)
