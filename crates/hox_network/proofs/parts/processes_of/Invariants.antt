use Rattle.std.proofs.Common.{◌≡◌, take}
use Rattle.hox_network.proofs.parts.processes_of.Given as goal

abbrev pub invariant-loop-process : goal.invariant-loop-process
invariant-loop-process g l = l.processes.items ≡ take l.process-index l.list
