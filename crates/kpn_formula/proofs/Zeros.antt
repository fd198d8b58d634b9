-- Before its first round a formula computes from zeros.
use Rattle.std.proofs.Common.{◌≡◌, ℕ, ◌+◌, ◌-◌, nat_lt, if◌then◌else◌, Bool, true, false, List, [], ◌∷◌, refl}
use Rattle.kpn_standard.specs.Locals.{at}
use Rattle.kpn_formula.specs.Formulas.{part, value, values}
use Rattle.kpn_formula.proofs.Stacks.{zeros_at}

zero_if : (b : Bool) (x y : ℕ) → x ≡ 0 → y ≡ 0 → (if b then x else y) ≡ 0
zero_if true x y first second = first
zero_if false x y first second = second

zero_part : (from n : ℕ) (words : List ℕ) (i : ℕ) → ((j : ℕ) → at words j ≡ 0) → part from n words i ≡ 0
zero_part from n words i zeros = zero_if (nat_lt i n) (at words (from + i)) 0 (zeros (from + i)) refl

module _ (k m n : ℕ) where
  zero_value : (i : ℕ) → value k m n (0 ∷ 0 ∷ 0 ∷ 0 ∷ []) (0 ∷ 0 ∷ 0 ∷ []) i ≡ 0
  zero_value i =
      zero_if (nat_lt i (k + m)) (part 0 k (0 ∷ 0 ∷ 0 ∷ 0 ∷ []) i) (part 0 n (0 ∷ 0 ∷ 0 ∷ []) (i - (k + m)))
      (zero_part 0 k (0 ∷ 0 ∷ 0 ∷ 0 ∷ []) i (zeros_at 4)) (zero_part 0 n (0 ∷ 0 ∷ 0 ∷ []) (i - (k + m)) (zeros_at 3))

  -- the values that a round on zeros begins with
  pub values_of_zeros : values k m n (0 ∷ 0 ∷ 0 ∷ 0 ∷ []) (0 ∷ 0 ∷ 0 ∷ []) ≡ 0 ∷ 0 ∷ 0 ∷ 0 ∷ 0 ∷ 0 ∷ []
  values_of_zeros = rw (zero_value 0) (rw (zero_value 1) (rw (zero_value 2) (rw (zero_value 3) (rw (zero_value 4) (rw (zero_value 5) refl)))))
