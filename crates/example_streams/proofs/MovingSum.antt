-- The moving sum.
use Rattle.std.proofs.Common.{◌≡◌, ◌<◌, ◌+◌, ◌%◌, ◌^◌, ℕ, zero, suc, List, [], ◌∷◌, length, refl, sym, ap, arith}
use Rattle.std.specs.List.{range_with_len}
use Rattle.std.proofs.lemmas.List.{map-append, get_or_past}
use Rattle.kpn_model.specs.declared.token.Token.{Token}
use Rattle.kpn_model.specs.declared.token.Token.TheVariants.{Word}
use Rattle.kpn_model.specs.Network.{Network}
use Rattle.kpn_standard.specs.Standard.{standard}
use Rattle.kpn_streams.specs.Functions.{sums}
use Rattle.kpn_streams.specs.Solving.{HasEquation}
use Rattle.test_laws.specs.Building.{numbers}
use Rattle.example_streams.specs.Arriving.{arriving}
use Rattle.example_streams.specs.MovingSum.{moving_sum, sums_of_two, moving_streams, MovingSum}
use Rattle.example_streams.proofs.Laws.{Laws}

-- the numbers and the same one place later give the sums of two
sums_with_later : (xs : List ℕ) (b : ℕ) → sums xs (b ∷ xs) ≡ sums_of_two b xs
sums_with_later [] b = refl
sums_with_later (x ∷ xs) b = ap (λ l. (x + b) % 2 ^ 64 ∷ l) (sums_with_later xs x)

module _ (laws : Laws) (xs : List ℕ) (from n k : ℕ) where
  abbrev net : Network
  net = moving_sum xs from n k

  abbrev all : List ℕ
  all = arriving xs from n

  abbrev X : ℕ → List Token
  X = moving_streams all

  abbrev lists : List (List Token)
  lists = numbers all ∷ numbers all ∷ numbers (0 ∷ all) ∷ numbers (sums_of_two 0 all) ∷ []

  abbrev of_count : List (List Token)
  of_count = numbers (range_with_len from n) ∷ []

  abbrev of_copy : List (List Token)
  of_copy = numbers all ∷ numbers all ∷ []

  abbrev of_add : List (List Token)
  of_add = numbers (sums all (0 ∷ all)) ∷ []

  -- each equation
  equations : (c : ℕ) → c < length net.channels → HasEquation standard net X c (X c)
  equations zero h = laws.equation net X 0 (X 0) 0 of_count refl (laws.count from n (0 ∷ [])) (map-append (λ x. Word x) xs (range_with_len from n))
  equations (suc zero) h = laws.equation net X 1 (X 1) 1 of_copy refl (laws.copy (0 ∷ 0 ∷ 0 ∷ []) all) refl
  equations (suc (suc zero)) h = laws.equation net X 2 (X 2) 1 of_copy refl (laws.copy (0 ∷ 0 ∷ 0 ∷ []) all) refl
  equations (suc (suc (suc zero))) h =
      laws.equation net X 3 (X 3) 2 of_add refl (laws.add (0 ∷ 0 ∷ 0 ∷ []) all (0 ∷ all)) (ap (λ l. numbers l) (sym (sums_with_later all 0)))
  equations (suc (suc (suc (suc c)))) h = absurd (omega arith)

-- so the network computes them
pub has_moving_sum : Laws → MovingSum
has_moving_sum laws xs from n k =
    laws.ordered (moving_sum xs from n k) (moving_streams (arriving xs from n))
    (record { equations = equations laws xs from n k; beyond = λ c past. get_or_past (lists laws xs from n k) c [] past }) (laws.order (moving_sum xs from n k) refl)
