use Rattle.std.proofs.Common.{◌≡◌, map, take}
use Rattle.std.specs.List.{All}
use Rattle.kpn_model.specs.Lawful.{Fits}
use Rattle.kpn_net.specs.Sketched.{channel_in}
use Rattle.kpn_net.proofs.check.channels_of.Given as goal

abbrev pub invariant-loop-sketch : goal.invariant-loop-sketch
invariant-loop-sketch l = (l.channels.items ≡ map (channel_in l.processes) (take l.sketch-index l.sketches)) × All (λ c. All Fits c.tokens) l.channels.items
