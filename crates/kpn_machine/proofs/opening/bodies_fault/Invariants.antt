use Rattle.std.proofs.Common.{◌≡◌, ◌<◌, ℕ, map, get_or}
use Rattle.kpn_model.specs.Network.{no_process, card_of}
use Rattle.kpn_machine.proofs.opening.bodies_fault.Given as goal

abbrev pub invariant-loop-p : goal.invariant-loop-p
invariant-loop-p g l = (q : ℕ) → q < l.p → get_or (map g.B.Body.card l.bodies) q no_process.card ≡ card_of l.net q
