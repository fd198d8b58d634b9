-- The pair is at its place, or it isn't there.
use Rattle.std.proofs.Common.{◌≡◌, ◌≢◌, ◌↔◌, ◌<◌, ◌≤◌, ℕ, arith, rules, length, get_or}
use Rattle.std.specs.List.{remove, Contains}
use Rattle.kpn_state.specs.Candidates.{IsBefore, IsInOrder}
use Rattle.kpn_state.proofs.Contradictions.{true_false}
use Rattle.kpn_state.proofs.Ordered.{ordered_remove, contains_remove, contains_absent, was_absent, same_default, not_there}
use Rattle.kpn_state.proofs.candidates.Candidates.remove.Goals as goal

pub invariant_of-self : goal.invariant_of-self
invariant_of-self c =
    let xs = c.self.inside.pairs.items in
    let y : ℕ × ℕ = (c.args.capacity, c.args.channel) in
    let i = c.place_of-place.result in
    let within : i ≤ length xs = rw c.as_slice.ensures.value at c.place_of-place.ensures.within in
    let before : (k : ℕ) (d : ℕ × ℕ) → k < i → IsBefore (get_or xs k d) y = rw c.as_slice.ensures.value at c.place_of-place.ensures.before in
    let rest : (k : ℕ) (d : ℕ × ℕ) → i ≤ k → k < length xs → IsBefore (get_or xs k d) y → ⊥ = rw c.as_slice.ensures.value at c.place_of-place.ensures.rest in
    let found : (i < length xs) × (get_or xs i y ≡ y) = rw c.as_slice-2.ensures.value at (c.is_at.ensures.0 c.if-is_at.true) in
    let ordered : IsInOrder (remove xs i) = ordered_remove xs c.self.invariant.0 y i within before rest found.0 (same_default xs i y y found.0 found.1) in
    (rw c.remove.ensures.items ordered, omega (arith, c.self.invariant.1, c.remove.ensures.capacity))

pub returns-then-is_at : goal.returns-then-is_at
returns-then-is_at c =
    let xs = c.self.inside.pairs.items in
    let y : ℕ × ℕ = (c.args.capacity, c.args.channel) in
    let i = c.place_of-place.result in
    let within : i ≤ length xs = rw c.as_slice.ensures.value at c.place_of-place.ensures.within in
    let before : (k : ℕ) (d : ℕ × ℕ) → k < i → IsBefore (get_or xs k d) y = rw c.as_slice.ensures.value at c.place_of-place.ensures.before in
    let rest : (k : ℕ) (d : ℕ × ℕ) → i ≤ k → k < length xs → IsBefore (get_or xs k d) y → ⊥ = rw c.as_slice.ensures.value at c.place_of-place.ensures.rest in
    let found : (i < length xs) × (get_or xs i y ≡ y) = rw c.as_slice-2.ensures.value at (c.is_at.ensures.0 c.if-is_at.true) in
    let all : (x : ℕ × ℕ) → Contains (remove xs i) x ↔ ((x ≢ y) × Contains xs x) = contains_remove xs c.self.invariant.0 y i within before rest found.0 (same_default xs i y y found.0 found.1) in
    record {
      pairs = rw (← c.self.view_is, c.remove.ensures.items) all;
      many = λ _. search rules;
      limit = search rules;
    }

pub returns-else-is_at : goal.returns-else-is_at
returns-else-is_at c =
    let xs = c.self.inside.pairs.items in
    let y : ℕ × ℕ = (c.args.capacity, c.args.channel) in
    let i = c.place_of-place.result in
    let within : i ≤ length xs = rw c.as_slice.ensures.value at c.place_of-place.ensures.within in
    let before : (k : ℕ) (d : ℕ × ℕ) → k < i → IsBefore (get_or xs k d) y = rw c.as_slice.ensures.value at c.place_of-place.ensures.before in
    let rest : (k : ℕ) (d : ℕ × ℕ) → i ≤ k → k < length xs → IsBefore (get_or xs k d) y → ⊥ = rw c.as_slice.ensures.value at c.place_of-place.ensures.rest in
    let absent : i < length xs → (d : ℕ × ℕ) → get_or xs i d ≢ y = not_there xs i y (λ h. true_false _ ((rw c.as_slice-2.ensures.value at c.is_at.ensures.1) h) c.if-is_at.false) in
    let all : (x : ℕ × ℕ) → Contains xs x ↔ ((x ≢ y) × Contains xs x) = contains_absent xs c.self.invariant.0 y i within before rest absent in
    let none : Contains xs y → ⊥ = was_absent xs c.self.invariant.0 y i within before rest absent in
    record {
      pairs = rw (← c.self.view_is) all;
      many = λ h. absurd (none (rw (← c.self.view_is) at h));
      limit = search rules;
    }
