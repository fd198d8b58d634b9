use Rattle.std.proofs.Common.{◌≡◌, take}
use Rattle.hox_network.proofs.parts.channels_of.Given as goal

abbrev pub invariant-loop-channel : goal.invariant-loop-channel
invariant-loop-channel g l = l.channels.items ≡ take l.channel-index l.list
