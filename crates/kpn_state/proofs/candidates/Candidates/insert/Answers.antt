-- The pair goes to its place.
use Rattle.std.proofs.Common.{◌≡◌, ◌≢◌, ◌↔◌, ◌⊎◌, ◌<◌, ◌≤◌, ℕ, arith, length, get_or}
use Rattle.std.specs.List.{insert, Contains}
use Rattle.kpn_state.specs.Candidates.{IsBefore, IsInOrder}
use Rattle.kpn_state.proofs.Contradictions.{true_false}
use Rattle.kpn_state.proofs.Ordered.{ordered_insert, contains_insert, not_there}
use Rattle.kpn_state.proofs.candidates.Candidates.insert.Goals as goal

pub invariant_of-self : goal.invariant_of-self
invariant_of-self c =
    let xs = c.self.inside.pairs.items in
    let y : ℕ × ℕ = (c.args.capacity, c.args.channel) in
    let i = c.place_of-place.result in
    let within : i ≤ length xs = rw c.as_slice.ensures.value at c.place_of-place.ensures.within in
    let before : (k : ℕ) (d : ℕ × ℕ) → k < i → IsBefore (get_or xs k d) y = rw c.as_slice.ensures.value at c.place_of-place.ensures.before in
    let rest : (k : ℕ) (d : ℕ × ℕ) → i ≤ k → k < length xs → IsBefore (get_or xs k d) y → ⊥ = rw c.as_slice.ensures.value at c.place_of-place.ensures.rest in
    let absent : i < length xs → (d : ℕ × ℕ) → get_or xs i d ≢ y = not_there xs i y (λ h. true_false _ ((rw c.as_slice-2.ensures.value at c.is_at.ensures.1) h) c.if-is_at.false) in
    let ordered : IsInOrder (insert xs i y) = ordered_insert xs c.self.invariant.0 y i within before rest absent in
    let room : length xs < c.self.inside.limit = rw (← c.self.view_is) at c.requires in
    let items : c.insert.new.self.items ≡ insert xs i y = rw (c.insert.ensures.succeeds (omega (arith, room, c.self.invariant.1, c.self.inside.pairs.ok.0))) at c.insert.ensures.items in
    (rw items ordered, omega (arith, c.self.invariant.1, c.insert.ensures.capacity))

pub returns-clause-pairs : goal.returns-clause-pairs
returns-clause-pairs c =
    let xs = c.self.inside.pairs.items in
    let y : ℕ × ℕ = (c.args.capacity, c.args.channel) in
    let i = c.place_of-place.result in
    let within : i ≤ length xs = rw c.as_slice.ensures.value at c.place_of-place.ensures.within in
    let before : (k : ℕ) (d : ℕ × ℕ) → k < i → IsBefore (get_or xs k d) y = rw c.as_slice.ensures.value at c.place_of-place.ensures.before in
    let rest : (k : ℕ) (d : ℕ × ℕ) → i ≤ k → k < length xs → IsBefore (get_or xs k d) y → ⊥ = rw c.as_slice.ensures.value at c.place_of-place.ensures.rest in
    let absent : i < length xs → (d : ℕ × ℕ) → get_or xs i d ≢ y = not_there xs i y (λ h. true_false _ ((rw c.as_slice-2.ensures.value at c.is_at.ensures.1) h) c.if-is_at.false) in
    let room : length xs < c.self.inside.limit = rw (← c.self.view_is) at c.requires in
    let items : c.insert.new.self.items ≡ insert xs i y = rw (c.insert.ensures.succeeds (omega (arith, room, c.self.invariant.1, c.self.inside.pairs.ok.0))) at c.insert.ensures.items in
    let all : (x : ℕ × ℕ) → Contains (insert xs i y) x ↔ ((x ≡ y) ⊎ Contains xs x) = contains_insert xs c.self.invariant.0 y i within before rest absent in
    rw (← c.self.view_is, items) all
