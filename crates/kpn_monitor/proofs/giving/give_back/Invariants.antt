use Rattle.std.proofs.Common.{◌≡◌, List, ◌++◌, length}
use Rattle.kpn_body.specs.Input.{Input}
use Rattle.kpn_monitor.specs.Hands.{TakesBackAll}
use Rattle.kpn_monitor.proofs.giving.give_back.Given as goal

abbrev pub invariant-loop-task : goal.invariant-loop-task
invariant-loop-task g l = record { back : (rest : List Input) × (l.initial.places.again ≡ l.places.again ++ rest) × TakesBackAll l.initial.machine rest l.machine; end : l.machine.end ≡ l.initial.machine.end; places : l.places ≡ record l.initial.places { again = l.places.again } }

abbrev pub decreases-loop-task : goal.decreases-loop-task
decreases-loop-task g l = length l.places.again
