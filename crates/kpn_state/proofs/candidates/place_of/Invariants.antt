use Rattle.std.proofs.Common.{ℕ, ◌<◌, ◌≤◌, ◌-◌, length, get_or}
use Rattle.kpn_state.specs.Candidates.{IsBefore}
use Rattle.kpn_state.proofs.candidates.place_of.Given as goal

abbrev pub invariant-loop-low : goal.invariant-loop-low
invariant-loop-low l = record {
  high : l.high ≤ length l.pairs;
  low : l.low ≤ l.high;
  before : (k : ℕ) (d : ℕ × ℕ) → k < l.low → IsBefore (get_or l.pairs k d) l.pair;
  rest : (k : ℕ) (d : ℕ × ℕ) → l.high ≤ k → k < length l.pairs → IsBefore (get_or l.pairs k d) l.pair → ⊥;
}

abbrev pub decreases-loop-low : goal.decreases-loop-low
decreases-loop-low l = l.high - l.low
