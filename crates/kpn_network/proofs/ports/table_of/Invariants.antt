use Rattle.kpn_network.specs.Ports.{HasPorts}
use Rattle.kpn_network.proofs.ports.table_of.Given as goal

abbrev pub invariant-loop-p : goal.invariant-loop-p
invariant-loop-p l = HasPorts l.channels l.p l.table.items
