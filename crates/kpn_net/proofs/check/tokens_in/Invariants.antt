use Rattle.std.proofs.Common.{◌≡◌, map, take}
use Rattle.std.specs.List.{All}
use Rattle.kpn_model.specs.Lawful.{Fits}
use Rattle.kpn_net.specs.Sketched.{token_in}
use Rattle.kpn_net.proofs.check.tokens_in.Given as goal

abbrev pub invariant-loop-sketch : goal.invariant-loop-sketch
invariant-loop-sketch l = (l.tokens.items ≡ map token_in (take l.sketch-index l.sketches)) × All Fits l.tokens.items
