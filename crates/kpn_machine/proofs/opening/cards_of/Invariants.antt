use Rattle.kpn_machine.specs.Opening.{cards_of}
use Rattle.kpn_body.proofs.Cards.{AreFirst}
use Rattle.kpn_machine.proofs.opening.cards_of.Given as goal

abbrev pub invariant-loop-process : goal.invariant-loop-process
invariant-loop-process g l = AreFirst l.cards.items (cards_of l.net.processes) l.process
