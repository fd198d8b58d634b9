use Rattle.std.proofs.Common.{◌≡◌, map, take}
use Rattle.hox_network.specs.Signs.{carried}
use Rattle.hox_network.proofs.signs.carried_args.Given as goal

abbrev pub invariant-loop-argument : goal.invariant-loop-argument
invariant-loop-argument l = l.all.items ≡ map carried (take l.argument-index l.args)
