use Rattle.std.proofs.Common.{◌≡◌, ◌++◌, take}
use Rattle.kpn_formula.specs.Spelling.{spelling}
use Rattle.kpn_formula.proofs.encoding.Tape.write_all.Given as goal

abbrev pub invariant-loop-instruction : goal.invariant-loop-instruction
invariant-loop-instruction l = l.self ≡ l.initial.self ++ spelling (take l.instruction-index l.program)
