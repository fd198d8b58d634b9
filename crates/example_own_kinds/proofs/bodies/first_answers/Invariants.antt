use Rattle.std.proofs.Common.{map}
use Rattle.kpn_body.proofs.Cards.{AreFirst}
use Rattle.example_own_kinds.proofs.bodies.first_answers.Given as goal

abbrev pub invariant-loop-process : goal.invariant-loop-process
invariant-loop-process l = AreFirst (map (λ b. b.card) l.bodies.items) (map (λ p. p.card) l.fn.net.processes) l.process
