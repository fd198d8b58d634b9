use Rattle.std.proofs.Common.{◌≡◌, ◌≤◌, ◌++◌}
use Rattle.std.specs.Prelude.{replicate}
use Rattle.kpn_tokens.proofs.appending.append_copies.Given as goal

abbrev pub invariant-loop : goal.invariant-loop
invariant-loop l = record { copies : l.out.items ≡ l.initial.out.items ++ replicate l.counter l.byte; few : l.counter ≤ l.count }
