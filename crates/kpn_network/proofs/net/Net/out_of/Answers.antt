-- A channel that is found is one of the network's.
use Rattle.std.proofs.Common.{◌≡◌, rules}
use Rattle.kpn_model.specs.Network.{out_of}
use Rattle.kpn_network.proofs.PortsWithin.{found_within}
use Rattle.kpn_network.proofs.net.Net.out_of.Goals as goal

pub returns-else-p-len : goal.returns-else-p-len
returns-else-p-len g c =
    let is : c.find_out.result ≡ out_of c.args.self.now c.args.p c.args.port = search rules in
    record { is = is; within = found_within _ c.args.self.now.channels _ is }
