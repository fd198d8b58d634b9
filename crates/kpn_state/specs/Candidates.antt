-- The candidates for a growth, in the order in which channels grow (Parks 1995).
use Rattle.std.specs.Prelude.{◌≡◌, ◌≢◌, ◌↔◌, ℕ, ◌<◌, ◌+◌, ◌⊎◌, List, length, get_or, Contains}

abbrev pub IsBefore : ℕ × ℕ → ℕ × ℕ → Type 0
IsBefore x y = (x.0 < y.0) ⊎ ((x.0 ≡ y.0) × (x.1 < y.1))

abbrev pub IsInOrder : List (ℕ × ℕ) → Type 0
IsInOrder pairs = (i j : ℕ) (d : ℕ × ℕ) → i < j → j < length pairs → IsBefore (get_or pairs i d) (get_or pairs j d)

pub record CandidateList : Type 0 where
  pub pairs : List (ℕ × ℕ)
  pub limit : ℕ

abbrev pub candidate_list : List (ℕ × ℕ) → ℕ → CandidateList
candidate_list pairs limit = record { pairs = pairs; limit = limit }

-- the pair is there, and the others that were
abbrev pub Inserts : List (ℕ × ℕ) → ℕ × ℕ → List (ℕ × ℕ) → Type 0
Inserts old pair new = (x : ℕ × ℕ) → Contains new x ↔ ((x ≡ pair) ⊎ Contains old x)

-- the pair, if it was there, is there no more; all others are
pub record Removes (old : CandidateList) (pair : ℕ × ℕ) (new : CandidateList) : Type 0 where
  pub pairs : (x : ℕ × ℕ) → Contains new.pairs x ↔ ((x ≢ pair) × Contains old.pairs x)
  pub many : Contains old.pairs pair → length new.pairs + 1 ≡ length old.pairs
  pub limit : new.limit ≡ old.limit
