use Rattle.std.proofs.Common.{◌≡◌, ◌<◌, ◌≤◌, ℕ, length, map, get_or, Some, None}
use Rattle.std.specs.Option.{option_map}
use Rattle.std.specs.Vec.{vec_capacity}
use Rattle.kpn_model.specs.Network.{no_process}
use Rattle.kpn_machine.specs.Opening.{cards_of}
use Rattle.kpn_machine.proofs.machine.Machine.into_parts.Given as goal

abbrev pub invariant-loop-p : goal.invariant-loop-p
invariant-loop-p g l = record {
  kept : (q : ℕ) → l.p ≤ q → q < length l.fn.self.network.processes → get_or (map (option_map g.B.Body.card) l.bodies.items) q None ≡ Some (get_or (cards_of l.fn.self.network.processes) q no_process.card);
  back : (q : ℕ) → q < l.p → get_or (map g.B.Body.card l.spare.items) q no_process.card ≡ get_or (cards_of l.fn.self.network.processes) q no_process.card;
  many : length l.spare.items ≡ l.p;
  slots : length l.bodies.items ≡ length l.fn.self.network.processes;
  room : length l.fn.self.network.processes ≤ vec_capacity l.spare;
}
