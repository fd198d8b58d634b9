use Rattle.std.proofs.Common.{◌≡◌, map}
use Rattle.hox_network.specs.Signs.{signed_process}
use Rattle.hox_network.proofs.signs.signed_processes.Given as goal

abbrev pub invariant-loop-process : goal.invariant-loop-process
invariant-loop-process g l = l.all.items ≡ map (signed_process g.K.Kinds.named g.K.Kinds.signature) l.yielded
