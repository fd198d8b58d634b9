use Rattle.std.proofs.Common.{map}
use Rattle.kpn_body.proofs.Cards.{AreFirst}
use Rattle.kpn_compute.proofs.bodies.bodies_of.Given as goal

abbrev pub invariant-loop-process : goal.invariant-loop-process
invariant-loop-process g l = AreFirst (map (λ b. b) l.bodies.items) (map (λ p. p.card) l.net.processes) l.process
