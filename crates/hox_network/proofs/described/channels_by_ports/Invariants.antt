use Rattle.std.proofs.Common.{◌≡◌, map}
use Rattle.hox_network.specs.Ports.{channel_by_ports}
use Rattle.hox_network.proofs.described.channels_by_ports.Given as goal

abbrev pub invariant-loop-channel : goal.invariant-loop-channel
invariant-loop-channel g l = l.sorted.items ≡ map (channel_by_ports g.K.Kinds.named g.K.Kinds.signature l.sketch) l.yielded
