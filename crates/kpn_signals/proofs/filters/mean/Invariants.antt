-- The total is that of the words so far, at most 2^63 each.
use Rattle.std.proofs.Common.{◌≡◌, ◌≤◌, ◌*◌, ◌^◌, take, ℕ, ℤ, List}
use Rattle.std.specs.Prelude.{unsigned_abs}
use Rattle.kpn_signals.specs.Filters.{signed_sum}
use Rattle.kpn_signals.proofs.filters.mean.Given as goal

pub record IsTotal (total : ℤ) (words : List ℕ) (n : ℕ) : Type 0 where
  pub is : total ≡ signed_sum (take n words)
  pub bound : unsigned_abs total ≤ n * 2 ^ 63

abbrev pub invariant-loop-word : goal.invariant-loop-word
invariant-loop-word l = IsTotal l.total l.words l.word-index
