use Rattle.std.proofs.Common.{◌≡◌, map, take}
use Rattle.hox_network.proofs.names.channel_names.Given as goal

abbrev pub invariant-loop-channel : goal.invariant-loop-channel
invariant-loop-channel g l = l.names.items ≡ map (λ x. x.name) (take l.channel-index l.channels)
