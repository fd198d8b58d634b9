use Rattle.std.proofs.Common.{◌≡◌, ◌+◌, ◌≤◌, length}
use Rattle.std.specs.List.{All}
use Rattle.kpn_model.specs.Network.{family_of}
use Rattle.kpn_monitor.specs.Kept.{WasTaken}
use Rattle.kpn_monitor.specs.Hands.{Gives, WereCommitted}
use Rattle.kpn_monitor.proofs.giving.give_all.Given as goal

abbrev pub invariant-loop-machine : goal.invariant-loop-machine
invariant-loop-machine g l = record {
  machine : Gives (family_of g.B.Kinds.Kinds.start g.B.Kinds.Kinds.answer_of) l.initial.machine l.initial.places.tasks l.places.outcomes l.places.again l.machine l.places.tasks;
  network : l.machine.network ≡ l.initial.machine.network;
  committed : WereCommitted (family_of g.B.Kinds.Kinds.start g.B.Kinds.Kinds.answer_of) g.B.Kinds.Kinds.admits l.initial.machine.network l.initial.places.tasks l.places.outcomes l.places.tasks;
  taken : All (WasTaken (family_of g.B.Kinds.Kinds.start g.B.Kinds.Kinds.answer_of) g.B.Kinds.Kinds.admits l.initial.machine.network) l.places.again;
  most : length l.places.again ≤ l.keep;
  called : l.places.called + length l.places.outcomes ≡ l.initial.places.called;
  count : length l.places.tasks + length l.places.outcomes ≡ length l.initial.places.tasks;
  few : length l.initial.places.tasks ≤ 64;
}

abbrev pub decreases-loop-machine : goal.decreases-loop-machine
decreases-loop-machine g l = l.places.called
