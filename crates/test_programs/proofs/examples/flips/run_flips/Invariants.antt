use Rattle.std.proofs.Common.{◌≡◌, map}
use Rattle.kpn_body.proofs.Cards.{AreFirst}
use Rattle.test_programs.proofs.examples.flips.run_flips.Given as goal

abbrev pub invariant-loop-process : goal.invariant-loop-process
invariant-loop-process g l = record {
  first : AreFirst (map (λ b. b.card) l.bodies.items) l.cards l.process;
  same : l.net ≡ l.fn.request.net;
}
