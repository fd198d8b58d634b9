use Rattle.std.proofs.Common.{◌≡◌, map}
use Rattle.hox_stream.specs.Exits.{exited}
use Rattle.hox_stream.proofs.opening.all_exited.Given as goal

abbrev pub invariant-loop-process : goal.invariant-loop-process
invariant-loop-process l = l.all.items ≡ map (exited l.channels l.names) l.yielded
