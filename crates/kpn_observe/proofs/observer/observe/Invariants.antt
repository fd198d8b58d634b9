use Rattle.std.proofs.Common.{◌≡◌}
use Rattle.kpn_observe.proofs.observer.observe.Given as goal

abbrev pub invariant-loop : goal.invariant-loop
invariant-loop g l = l.watcher.board ≡ g.E.EntryLedger.board
