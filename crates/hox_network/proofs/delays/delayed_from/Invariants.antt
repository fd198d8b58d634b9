use Rattle.std.proofs.Common.{◌≡◌}
use Rattle.hox_network.specs.Delays.{delayed_from}
use Rattle.hox_network.proofs.delays.delayed_from.Given as goal

abbrev pub invariant-loop-channel : goal.invariant-loop-channel
invariant-loop-channel g l = l.all.items ≡ delayed_from g.K.Kinds.named g.K.Kinds.signature l.delays l.sketch 0 l.yielded
