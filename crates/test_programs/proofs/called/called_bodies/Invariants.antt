use Rattle.std.proofs.Common.{map}
use Rattle.kpn_machine.specs.Opening.{cards_of}
use Rattle.kpn_body.proofs.Cards.{AreFirst}
use Rattle.test_programs.proofs.called.called_bodies.Given as goal

abbrev pub invariant-loop-process : goal.invariant-loop-process
invariant-loop-process l = AreFirst (map (λ b. b.card) l.bodies.items) (cards_of l.fn.net.processes) l.process
