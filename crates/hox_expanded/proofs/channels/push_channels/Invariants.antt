use Rattle.std.proofs.Common.{◌≡◌, ◌++◌, string_bytes, take}
use Rattle.std.specs.List.{flat_map}
use Rattle.hox_expanded.specs.Description.{channel_line}
use Rattle.hox_expanded.proofs.channels.push_channels.Given as goal

abbrev pub invariant-loop-channel : goal.invariant-loop-channel
invariant-loop-channel g l = string_bytes l.out ≡ string_bytes l.initial.out ++ flat_map (channel_line l.net) (take l.channel-index l.channels)
