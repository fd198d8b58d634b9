use Rattle.std.proofs.Common.{◌≡◌, ◌<◌, ℕ, map, take, None}
use Rattle.kpn_model.specs.Network.{card_of, family_of}
use Rattle.kpn_machine.specs.Opening.{starting}
use Rattle.kpn_machine.proofs.opening.start_statuses.Given as goal

abbrev pub invariant-loop-p : goal.invariant-loop-p
invariant-loop-p g l = record {
  items : l.statuses.items ≡ map (starting (family_of g.K.Kinds.start g.K.Kinds.answer_of)) (take l.p l.net.processes);
  admitted : (q : ℕ) → q < l.p → g.K.Kinds.admits (card_of l.net q) (g.K.Kinds.start (card_of l.net q)) None;
}
