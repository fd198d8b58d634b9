-- The functions of weave and merge, without their recursion.
use Rattle.std.specs.Prelude.{◌≡◌, ◌⊎◌, ◌↔◌, ℕ, ◌<◌, ◌≤◌, List, ◌++◌, length, Contains, Any}
use Rattle.std.specs.List.Sorted.{IsStrictlyIncreasing}

-- f takes a numbers of the first stream, then b of the second, in turn; it waits where a stream ends
pub record TakesTurns (a b : ℕ) (f : List ℕ → List ℕ → List ℕ) : Type 0 where
  pub round : (us vs xs ys : List ℕ) → length us ≡ a → length vs ≡ b → f (us ++ xs) (vs ++ ys) ≡ us ++ (vs ++ f xs ys)
  pub first_ends : (xs ys : List ℕ) → length xs < a → f xs ys ≡ xs
  pub second_ends : (us xs ys : List ℕ) → length us ≡ a → length ys < b → f (us ++ xs) ys ≡ us ++ ys

-- the stream has z or a greater number
abbrev pub Reaches : List ℕ → ℕ → Type 0
Reaches xs z = Any (λ x. z ≤ x) xs

-- zs rises, and has exactly the numbers of either stream that both streams reach, so that neither ended before
pub record IsRisingUnion (xs ys zs : List ℕ) : Type 0 where
  pub rises : IsStrictlyIncreasing zs
  pub members : (z : ℕ) → Contains zs z ↔ (Contains xs z ⊎ Contains ys z) × Reaches xs z × Reaches ys z
