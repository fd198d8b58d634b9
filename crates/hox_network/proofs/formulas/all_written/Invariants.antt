use Rattle.std.specs.List.{AllZip}
use Rattle.hox_network.specs.Formulas.{IsWritten}
use Rattle.hox_network.proofs.formulas.all_written.Given as goal

abbrev pub invariant-loop-process : goal.invariant-loop-process
invariant-loop-process l = AllZip IsWritten l.yielded l.all.items
