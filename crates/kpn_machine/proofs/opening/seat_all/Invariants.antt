use Rattle.std.proofs.Common.{◌≡◌, ◌<◌, ◌≤◌, ℕ, length, map, get_or, Some, None}
use Rattle.std.specs.Option.{option_map}
use Rattle.std.specs.Vec.{vec_capacity}
use Rattle.kpn_model.specs.Network.{no_process}
use Rattle.kpn_machine.proofs.opening.seat_all.Given as goal

abbrev pub invariant-loop-body : goal.invariant-loop-body
invariant-loop-body g l = record {
  seated : (p : ℕ) → length l.bodies.items ≤ p → p < length l.initial.bodies.items → get_or (map (option_map g.B.Body.card) l.slots.items) p None ≡ Some (get_or (map g.B.Body.card l.initial.bodies.items) p no_process.card);
  left : (p : ℕ) → p < length l.bodies.items → get_or (map g.B.Body.card l.bodies.items) p no_process.card ≡ get_or (map g.B.Body.card l.initial.bodies.items) p no_process.card;
  slots : length l.slots.items ≡ length l.initial.bodies.items;
  few : length l.bodies.items ≤ length l.initial.bodies.items;
  room : vec_capacity l.bodies ≡ vec_capacity l.initial.bodies;
}

abbrev pub decreases-loop-body : goal.decreases-loop-body
decreases-loop-body g l = length l.bodies.items
