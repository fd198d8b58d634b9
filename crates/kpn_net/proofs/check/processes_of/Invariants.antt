use Rattle.std.proofs.Common.{◌≡◌, map, take}
use Rattle.std.specs.List.{All}
use Rattle.kpn_model.specs.Lawful.{CardFits}
use Rattle.kpn_net.specs.Sketched.{process_in}
use Rattle.kpn_net.proofs.check.processes_of.Given as goal

abbrev pub invariant-loop-sketch : goal.invariant-loop-sketch
invariant-loop-sketch g l =
    (l.processes.items ≡ map (process_in g.K.Kinds.named) (take l.sketch-index l.sketches)) × All (λ p. CardFits p.card) l.processes.items
