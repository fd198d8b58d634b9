-- The numbers of the faults on opening a machine.
use Rattle.std.specs.Prelude.{ℕ}
use Rattle.kpn_machine.specs.declared.opening.OpenFault.{OpenFault}
use Rattle.kpn_machine.specs.declared.opening.OpenFault.TheVariants.{Bodies, Card, Memory}

abbrev pub number_of_open_fault : OpenFault → ℕ
number_of_open_fault Bodies = 1
number_of_open_fault Card = 2
number_of_open_fault Memory = 3
