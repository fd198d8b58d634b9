-- The cards of a network.
use Rattle.std.specs.Prelude.{List, map}
use Rattle.kpn_model.specs.declared.kinds.Card.{Card}
use Rattle.kpn_model.specs.Network.{Network}

-- the cards of the processes, in order
abbrev pub process_cards : Network → List Card
process_cards net = map (λ p. p.card) net.processes
