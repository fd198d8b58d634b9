use Rattle.std.proofs.Common.{◌≡◌, ◌≤◌, ◌*◌, take}
use Rattle.kpn_formula.specs.Encoding.{size}
use Rattle.kpn_formula.proofs.encoding.size.Given as goal

abbrev pub invariant-loop-instruction : goal.invariant-loop-instruction
invariant-loop-instruction l = (l.total ≡ size (take l.instruction-index l.program)) × (l.total ≤ 4 * l.instruction-index)
