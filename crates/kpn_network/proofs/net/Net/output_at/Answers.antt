-- A channel that is found is one of the network's.
use Rattle.std.proofs.Common.{◌≡◌, ◌<◌, None, get_or, length, rules}
use Rattle.kpn_model.specs.Network.{out_of}
use Rattle.kpn_network.proofs.PortsWithin.{found_within, output_is}
use Rattle.kpn_network.proofs.net.Net.output_at.Goals as goal

pub returns-then-port-lt3 : goal.returns-then-port-lt3
returns-then-port-lt3 g c =
    let process : c.args.p < length c.self.inside.processes.items = rw (← c.self.view_is) at c.requires.process in
    let is : get_or c.index.result.now.outs c.args.port None ≡ out_of c.args.self.now c.args.p c.args.port = rw (← c.self.view_is) (output_is c.self.invariant.1 c.args.p c.index.result.now c.index.ensures process c.args.port c.if-port-lt3.true) in
    record { is = is; within = found_within _ c.args.self.now.channels _ is }

pub returns-else-port-lt3 : goal.returns-else-port-lt3
returns-else-port-lt3 g c =
    let is : c.find_out.result ≡ out_of c.args.self.now c.args.p c.args.port = search rules in
    record { is = is; within = found_within _ c.args.self.now.channels _ is }
