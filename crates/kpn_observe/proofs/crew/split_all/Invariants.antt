use Rattle.std.proofs.Common.{◌≡◌, ◌+◌, ◌≤◌, length}
use Rattle.std.specs.Prelude.{vec_capacity}
use Rattle.kpn_observe.proofs.crew.split_all.Given as goal

abbrev pub invariant-loop-i : goal.invariant-loop-i
invariant-loop-i g l =
    (length l.seats.items + l.rest.parts ≡ l.initial.rest.parts)
    × (length l.seats.items ≤ l._i)
    × (l.count ≤ vec_capacity l.seats)
