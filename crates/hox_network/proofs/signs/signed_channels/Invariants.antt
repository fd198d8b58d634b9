use Rattle.std.proofs.Common.{◌≡◌, map}
use Rattle.hox_network.specs.Signs.{signed_channel}
use Rattle.hox_network.proofs.signs.signed_channels.Given as goal

abbrev pub invariant-loop-channel : goal.invariant-loop-channel
invariant-loop-channel l = l.all.items ≡ map signed_channel l.yielded
