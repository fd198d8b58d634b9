-- What merge writes of two rising streams is their rising union, as far as both come.
use Rattle.std.proofs.Common.{◌≡◌, ◌+◌, ◌<◌, ◌≤◌, ◌⊎◌, ℕ, zero, suc, nat_lt, true, false, List, [], ◌∷◌, length, get_or, slice_index_or, Contains, refl, subst, arith, inl, inr, ⊎_elim, ltb-true, ltb-false}
use Rattle.std.specs.List.Sorted.{IsStrictlyIncreasing}
use Rattle.std.proofs.lemmas.List.Elements.{Contains-get_or}
use Rattle.kpn_streams.specs.Joined.{Reaches, IsRisingUnion}
use Rattle.kpn_streams.specs.Kinds.{MergeIsUnion}
use Rattle.kpn_streams.proofs.Merging.{of_merged}

module _ (x : ℕ) (xs : List ℕ) where
  -- the head is there
  at_head : (z : ℕ) → x ≡ z → Contains (x ∷ xs) z
  at_head z e = (0, omega arith, e)

  -- and so is what is in the rest
  in_rest : (z : ℕ) → Contains xs z → Contains (x ∷ xs) z
  in_rest z c = (suc c.0, omega arith, c.2)

  -- and no others
  head_or_rest : (z : ℕ) → Contains (x ∷ xs) z → (x ≡ z) ⊎ Contains xs z
  head_or_rest z c = at c.0 c.1 c.2
    where
      at : (k : ℕ) → k < length (x ∷ xs) → slice_index_or (x ∷ xs) k z ≡ z → (x ≡ z) ⊎ Contains xs z
      at zero h e = inl e
      at (suc k) h e = inr (k, omega arith, e)

  -- the head is z or more, or the rest comes to it
  reaches_at_head : (z : ℕ) → z ≤ x → Reaches (x ∷ xs) z
  reaches_at_head z h = (0, x, omega arith, refl, h)

  reaches_in_rest : (z : ℕ) → Reaches xs z → Reaches (x ∷ xs) z
  reaches_in_rest z r = (suc r.0, r.1, omega arith, r.3, r.4)

  -- if the head is less, the rest does
  reaches_beyond : (z : ℕ) → x < z → Reaches (x ∷ xs) z → Reaches xs z
  reaches_beyond z less r = at r.0 r.1 r.2 r.3 r.4
    where
      at : (k w : ℕ) → k < length (x ∷ xs) → slice_index_or (x ∷ xs) k w ≡ w → z ≤ w → Reaches xs z
      at zero w h e great = absurd (omega arith)
      at (suc k) w h e great = (k, w, omega arith, e, great)

  -- the rest of a rising stream rises
  rest_rises : IsStrictlyIncreasing (x ∷ xs) → IsStrictlyIncreasing xs
  rest_rises up k h =
      let next : suc k + 1 ≡ suc (k + 1) = omega arith in
      subst (λ (n : ℕ). get_or xs k 0 < get_or (x ∷ xs) n 0) next (up (suc k) (omega arith))

  -- a rising stream with a lesser head rises
  rises_after : IsStrictlyIncreasing xs → ((z : ℕ) → Contains xs z → x < z) → IsStrictlyIncreasing (x ∷ xs)
  rises_after up above zero h = above (get_or xs 0 0) (Contains-get_or xs 0 0 (omega arith))
  rises_after up above (suc k) h =
      let next : suc (k + 1) ≡ suc k + 1 = omega arith in
      subst (λ (n : ℕ). get_or xs k 0 < get_or (x ∷ xs) n 0) next (up k (omega arith))

-- what follows in a rising stream is greater than its head
above_head : (x : ℕ) (xs : List ℕ) → IsStrictlyIncreasing (x ∷ xs) → (z : ℕ) → Contains xs z → x < z
above_head x [] up z c = absurd (omega arith)
above_head x (y ∷ ys) up z c =
    let first : x < y = up 0 (omega arith) in
    ⊎_elim (λ (e : y ≡ z). omega arith) (λ (d : Contains ys z). let second : y < z = above_head y ys (rest_rises x (y ∷ ys) up) z d in omega arith) (head_or_rest y ys z c)

-- so all of it is no less than its head
from_head : (x : ℕ) (xs : List ℕ) → IsStrictlyIncreasing (x ∷ xs) → (z : ℕ) → Contains (x ∷ xs) z → x ≤ z
from_head x xs up z c =
    ⊎_elim (λ (e : x ≡ z). omega arith) (λ (d : Contains xs z). let second : x < z = above_head x xs up z d in omega arith) (head_or_rest x xs z c)

-- of rising streams it is the rising union
abbrev JoinsRising : List ℕ → List ℕ → List ℕ → Type 0
JoinsRising xs ys zs = IsStrictlyIncreasing xs → IsStrictlyIncreasing ys → IsRisingUnion xs ys zs

no_first : (ys : List ℕ) → JoinsRising [] ys []
no_first ys up other =
    record {
      rises = λ k h. absurd (omega arith);
      members = λ z. (λ c. absurd (omega (arith, c.1)), λ m. absurd (omega (arith, m.1.2)));
    }

no_second : (x : ℕ) (xs : List ℕ) → JoinsRising (x ∷ xs) [] []
no_second x xs up other =
    record {
      rises = λ k h. absurd (omega arith);
      members = λ z. (λ c. absurd (omega (arith, c.1)), λ m. absurd (omega (arith, m.2.2)));
    }

-- the lesser head is that of the first stream
module _ (x y : ℕ) (xs ys zs : List ℕ) (below : x < y) (up : IsStrictlyIncreasing (x ∷ xs)) (other : IsStrictlyIncreasing (y ∷ ys)) (u : IsRisingUnion xs (y ∷ ys) zs) where
  less_above : (z : ℕ) → Contains xs z ⊎ Contains (y ∷ ys) z → x < z
  less_above z m = ⊎_elim (λ c. above_head x xs up z c) (λ (c : Contains (y ∷ ys) z). let h : y ≤ z = from_head y ys other z c in omega arith) m

  less_to : (z : ℕ) → Contains (x ∷ zs) z → (Contains (x ∷ xs) z ⊎ Contains (y ∷ ys) z) × Reaches (x ∷ xs) z × Reaches (y ∷ ys) z
  less_to z c =
      ⊎_elim
      (λ (e : x ≡ z). (inl (at_head x xs z e), reaches_at_head x xs z (omega arith), reaches_at_head y ys z (omega arith)))
      (λ (d : Contains zs z).
      let m = (u.members z).0 d in
      (⊎_elim (λ (a : Contains xs z). inl (in_rest x xs z a)) (λ (b : Contains (y ∷ ys) z). inr b) m.0, reaches_in_rest x xs z m.1, m.2))
      (head_or_rest x zs z c)

  less_from : (z : ℕ) → (Contains (x ∷ xs) z ⊎ Contains (y ∷ ys) z) × Reaches (x ∷ xs) z × Reaches (y ∷ ys) z → Contains (x ∷ zs) z
  less_from z m =
      ⊎_elim
      (λ (a : Contains (x ∷ xs) z). ⊎_elim (λ (e : x ≡ z). at_head x zs z e) (λ (d : Contains xs z). known (inl d)) (head_or_rest x xs z a))
      (λ (b : Contains (y ∷ ys) z). known (inr b))
      m.0
    where
      known : Contains xs z ⊎ Contains (y ∷ ys) z → Contains (x ∷ zs) z
      known d = in_rest x zs z ((u.members z).1 (d, reaches_beyond x xs z (less_above z d) m.1, m.2))

  less_union : IsRisingUnion (x ∷ xs) (y ∷ ys) (x ∷ zs)
  less_union = record { rises = rises_after x zs u.rises (λ z c. less_above z ((u.members z).0 c).0); members = λ z. (less_to z, less_from z) }

-- it is that of the second
module _ (x y : ℕ) (xs ys zs : List ℕ) (below : y < x) (up : IsStrictlyIncreasing (x ∷ xs)) (other : IsStrictlyIncreasing (y ∷ ys)) (u : IsRisingUnion (x ∷ xs) ys zs) where
  more_above : (z : ℕ) → Contains (x ∷ xs) z ⊎ Contains ys z → y < z
  more_above z m = ⊎_elim (λ (c : Contains (x ∷ xs) z). let h : x ≤ z = from_head x xs up z c in omega arith) (λ c. above_head y ys other z c) m

  more_to : (z : ℕ) → Contains (y ∷ zs) z → (Contains (x ∷ xs) z ⊎ Contains (y ∷ ys) z) × Reaches (x ∷ xs) z × Reaches (y ∷ ys) z
  more_to z c =
      ⊎_elim
      (λ (e : y ≡ z). (inr (at_head y ys z e), reaches_at_head x xs z (omega arith), reaches_at_head y ys z (omega arith)))
      (λ (d : Contains zs z).
      let m = (u.members z).0 d in
      (⊎_elim (λ (a : Contains (x ∷ xs) z). inl a) (λ (b : Contains ys z). inr (in_rest y ys z b)) m.0, m.1, reaches_in_rest y ys z m.2))
      (head_or_rest y zs z c)

  more_from : (z : ℕ) → (Contains (x ∷ xs) z ⊎ Contains (y ∷ ys) z) × Reaches (x ∷ xs) z × Reaches (y ∷ ys) z → Contains (y ∷ zs) z
  more_from z m =
      ⊎_elim
      (λ (a : Contains (x ∷ xs) z). known (inl a))
      (λ (b : Contains (y ∷ ys) z). ⊎_elim (λ (e : y ≡ z). at_head y zs z e) (λ (d : Contains ys z). known (inr d)) (head_or_rest y ys z b))
      m.0
    where
      known : Contains (x ∷ xs) z ⊎ Contains ys z → Contains (y ∷ zs) z
      known d = in_rest y zs z ((u.members z).1 (d, m.1, reaches_beyond y ys z (more_above z d) m.2))

  more_union : IsRisingUnion (x ∷ xs) (y ∷ ys) (y ∷ zs)
  more_union = record { rises = rises_after y zs u.rises (λ z c. more_above z ((u.members z).0 c).0); members = λ z. (more_to z, more_from z) }

-- they are equal
module _ (x y : ℕ) (xs ys zs : List ℕ) (even : x ≡ y) (up : IsStrictlyIncreasing (x ∷ xs)) (other : IsStrictlyIncreasing (y ∷ ys)) (u : IsRisingUnion xs ys zs) where
  same_above : (z : ℕ) → Contains xs z ⊎ Contains ys z → x < z
  same_above z m = ⊎_elim (λ c. above_head x xs up z c) (λ (c : Contains ys z). let h : y < z = above_head y ys other z c in omega arith) m

  same_to : (z : ℕ) → Contains (x ∷ zs) z → (Contains (x ∷ xs) z ⊎ Contains (y ∷ ys) z) × Reaches (x ∷ xs) z × Reaches (y ∷ ys) z
  same_to z c =
      ⊎_elim
      (λ (e : x ≡ z). (inl (at_head x xs z e), reaches_at_head x xs z (omega arith), reaches_at_head y ys z (omega arith)))
      (λ (d : Contains zs z).
      let m = (u.members z).0 d in (
        ⊎_elim (λ (a : Contains xs z). inl (in_rest x xs z a)) (λ (b : Contains ys z). inr (in_rest y ys z b)) m.0,
        reaches_in_rest x xs z m.1,
        reaches_in_rest y ys z m.2,
      ))
      (head_or_rest x zs z c)

  same_from : (z : ℕ) → (Contains (x ∷ xs) z ⊎ Contains (y ∷ ys) z) × Reaches (x ∷ xs) z × Reaches (y ∷ ys) z → Contains (x ∷ zs) z
  same_from z m =
      ⊎_elim
      (λ (a : Contains (x ∷ xs) z). ⊎_elim (λ (e : x ≡ z). at_head x zs z e) (λ (d : Contains xs z). known (inl d)) (head_or_rest x xs z a))
      (λ (b : Contains (y ∷ ys) z). ⊎_elim (λ (e : y ≡ z). at_head x zs z (omega arith)) (λ (d : Contains ys z). known (inr d)) (head_or_rest y ys z b))
      m.0
    where
      known : Contains xs z ⊎ Contains ys z → Contains (x ∷ zs) z
      known d =
          let h : x < z = same_above z d in
          in_rest x zs z ((u.members z).1 (d, reaches_beyond x xs z h m.1, reaches_beyond y ys z (omega arith) m.2))

  same_union : IsRisingUnion (x ∷ xs) (y ∷ ys) (x ∷ zs)
  same_union = record { rises = rises_after x zs u.rises (λ z c. same_above z ((u.members z).0 c).0); members = λ z. (same_to z, same_from z) }

-- the lesser of two heads, by the tests of merge
less : (x y : ℕ) (xs ys zs : List ℕ) → nat_lt x y ≡ true → JoinsRising xs (y ∷ ys) zs → JoinsRising (x ∷ xs) (y ∷ ys) (x ∷ zs)
less x y xs ys zs e j up other = less_union x y xs ys zs (ltb-true x y e) up other (j (rest_rises x xs up) other)

more : (x y : ℕ) (xs ys zs : List ℕ) → nat_lt x y ≡ false → nat_lt y x ≡ true → JoinsRising (x ∷ xs) ys zs → JoinsRising (x ∷ xs) (y ∷ ys) (y ∷ zs)
more x y xs ys zs e f j up other = more_union x y xs ys zs (ltb-true y x f) up other (j up (rest_rises y ys other))

same : (x y : ℕ) (xs ys zs : List ℕ) → nat_lt x y ≡ false → nat_lt y x ≡ false → JoinsRising xs ys zs → JoinsRising (x ∷ xs) (y ∷ ys) (x ∷ zs)
same x y xs ys zs e f j up other =
    let a : y ≤ x = ltb-false x y e in
    let b : x ≤ y = ltb-false y x f in
    same_union x y xs ys zs (omega arith) up other (j (rest_rises x xs up) (rest_rises y ys other))

-- what is merged of two rising streams is their rising union
pub merge_is_union : MergeIsUnion
merge_is_union xs ys up other = of_merged JoinsRising no_first no_second less more same xs ys up other
