use Rattle.std.proofs.Common.{◌≡◌, map, take}
use Rattle.kpn_machine.specs.Opening.{filled}
use Rattle.kpn_machine.proofs.opening.start_rings.Given as goal

abbrev pub invariant-loop-c : goal.invariant-loop-c
invariant-loop-c g l = l.rings.items ≡ map filled (take l.c l.net.channels)
