-- The first of Hamming's numbers, as lists.
use Rattle.std.proofs.Common.{◌≡◌, ◌≤◌, ◌<◌, ◌⊎◌, ◌+◌, ◌*◌, ◌^◌, min, inl, inr, ⊎_elim, ℕ, zero, suc, List, [], ◌∷◌, length, refl, sym, ap, ◌∙◌, subst, arith, get_or, take, map, pow-suc, mul-pos, mul-le-mul_right, mod-eq_of_lt, take_all, ◌-◌, get_or-take, length-take}
use Rattle.std.specs.Prelude.{Contains}
use Rattle.std.specs.List.Sorted.{IsStrictlyIncreasing}
use native.Mathlib.Nat.{one-le-pow, pow-le-pow_right}
use Rattle.std.proofs.lemmas.Bool.{cases_lt, cases_eq}
use Rattle.std.proofs.lemmas.List.{get_or_default, get_or-map, length-map}
use Rattle.kpn_streams.specs.Functions.{products, merged}
use Rattle.kpn_streams.specs.Kinds.{MergeIsUnion}
use Rattle.kpn_streams.specs.Joined.{Reaches, IsRisingUnion}
use Rattle.example_streams.specs.Hamming.{IsHamming, AreFirstHamming, AreSmall, FewAreSmall}

-- ---- the numbers

double : (p q z : ℕ) → z ≡ p * q → 2 * z ≡ p * 2 * q
double p q z e = omega arith

triple : (p q r z : ℕ) → z ≡ p * (q * r) → 3 * z ≡ p * (q * 3 * r)
triple p q r z e = omega arith

quintuple : (p q r z : ℕ) → z ≡ p * (q * r) → 5 * z ≡ p * (q * (r * 5))
quintuple p q r z e = omega arith

twice : (z : ℕ) → IsHamming z → IsHamming (2 * z)
twice z h =
    record {
      twos = suc h.twos;
      threes = h.threes;
      fives = h.fives;
      is = double (2 ^ h.twos) (3 ^ h.threes * 5 ^ h.fives) z h.is ∙ ap (λ x. x * (3 ^ h.threes * 5 ^ h.fives)) (sym (pow-suc 2 h.twos));
    }

thrice : (z : ℕ) → IsHamming z → IsHamming (3 * z)
thrice z h =
    record {
      twos = h.twos;
      threes = suc h.threes;
      fives = h.fives;
      is = triple (2 ^ h.twos) (3 ^ h.threes) (5 ^ h.fives) z h.is ∙ ap (λ x. 2 ^ h.twos * (x * 5 ^ h.fives)) (sym (pow-suc 3 h.threes));
    }

five_times : (z : ℕ) → IsHamming z → IsHamming (5 * z)
five_times z h =
    record {
      twos = h.twos;
      threes = h.threes;
      fives = suc h.fives;
      is = quintuple (2 ^ h.twos) (3 ^ h.threes) (5 ^ h.fives) z h.is ∙ ap (λ x. 2 ^ h.twos * (3 ^ h.threes * x)) (sym (pow-suc 5 h.fives));
    }

pub one_is_hamming : IsHamming 1
one_is_hamming = record { twos = 0; threes = 0; fives = 0; is = refl }

-- each is 1, or twice, thrice or five times another
abbrev IsTimes : ℕ → ℕ → Type 0
IsTimes k z = (y : ℕ) × IsHamming y × (z ≡ k * y)

factor : (a b c z : ℕ) → z ≡ 2 ^ a * (3 ^ b * 5 ^ c) → (z ≡ 1) ⊎ (IsTimes 2 z ⊎ (IsTimes 3 z ⊎ IsTimes 5 z))
factor (suc a) b c z e =
    let y = 2 ^ a * (3 ^ b * 5 ^ c) in
    let twice : 2 * y ≡ 2 ^ a * 2 * (3 ^ b * 5 ^ c) = double (2 ^ a) (3 ^ b * 5 ^ c) y refl in
    inr (inl (y, record { twos = a; threes = b; fives = c; is = refl }, e ∙ ap (λ x. x * (3 ^ b * 5 ^ c)) (pow-suc 2 a) ∙ sym twice))
factor zero (suc b) c z e =
    let y = 2 ^ 0 * (3 ^ b * 5 ^ c) in
    let thrice : 3 * y ≡ 2 ^ 0 * (3 ^ b * 3 * 5 ^ c) = triple (2 ^ 0) (3 ^ b) (5 ^ c) y refl in
    inr (inr (inl (y, record { twos = 0; threes = b; fives = c; is = refl }, e ∙ ap (λ x. 2 ^ 0 * (x * 5 ^ c)) (pow-suc 3 b) ∙ sym thrice)))
factor zero zero (suc c) z e =
    let y = 2 ^ 0 * (3 ^ 0 * 5 ^ c) in
    let five : 5 * y ≡ 2 ^ 0 * (3 ^ 0 * (5 ^ c * 5)) = quintuple (2 ^ 0) (3 ^ 0) (5 ^ c) y refl in
    inr (inr (inr (y, record { twos = 0; threes = 0; fives = c; is = refl }, e ∙ ap (λ x. 2 ^ 0 * (3 ^ 0 * x)) (pow-suc 5 c) ∙ sym five)))
factor zero zero zero z e = inl e

-- none is 0
positive : (z : ℕ) → IsHamming z → 1 ≤ z
positive z h =
    let a = one-le-pow h.twos 2 (omega arith) in
    let b = one-le-pow h.threes 3 (omega arith) in
    let c = one-le-pow h.fives 5 (omega arith) in
    let bc : 0 < 3 ^ h.threes * 5 ^ h.fives = mul-pos b c in
    let abc : 0 < 2 ^ h.twos * (3 ^ h.threes * 5 ^ h.fives) = mul-pos a bc in
    subst (λ x. 1 ≤ x) (sym h.is) abc

-- ---- lists of numbers, place by place

at_place : (xs : List ℕ) (z : ℕ) → Contains xs z → (i : ℕ) × (i < length xs) × (get_or xs i 0 ≡ z)
at_place xs z c = (c.0, c.1, get_or_default xs c.0 0 z c.1 ∙ c.2)

there : (xs : List ℕ) (z i : ℕ) → i < length xs → get_or xs i 0 ≡ z → Contains xs z
there xs z i h e = (i, h, get_or_default xs i z 0 h ∙ e)

reached_at : (xs : List ℕ) (z : ℕ) → Reaches xs z → (i : ℕ) × (i < length xs) × (z ≤ get_or xs i 0)
reached_at xs z r = (r.0, r.2, subst (λ w. z ≤ w) (sym (get_or_default xs r.0 0 r.1 r.2 ∙ r.3)) r.4)

reaches : (xs : List ℕ) (z i : ℕ) → i < length xs → z ≤ get_or xs i 0 → Reaches xs z
reaches xs z i h le = (i, get_or xs i 0, h, get_or_default xs i (get_or xs i 0) 0 h, le)

-- what a list reaches it reaches with less
reaches_less : (xs : List ℕ) (y z : ℕ) → y ≤ z → Reaches xs z → Reaches xs y
reaches_less xs y z le r = let x = reached_at xs z r in let above = x.2 in reaches xs y x.0 x.1 (omega arith)

reaches_own : (xs : List ℕ) (z : ℕ) → Contains xs z → Reaches xs z
reaches_own xs z c = let x = at_place xs z c in let same = x.2 in reaches xs z x.0 x.1 (omega arith)

-- in a rising list a later number is greater
later_greater : (xs : List ℕ) → IsStrictlyIncreasing xs → (i j : ℕ) → i < j → j < length xs → get_or xs i 0 < get_or xs j 0
later_greater xs up i zero less h = absurd (omega arith)
later_greater xs up i (suc j) less h =
    let next : j + 1 ≡ suc j = omega arith in
    let step : get_or xs j 0 < get_or xs (suc j) 0 = subst (λ x. get_or xs j 0 < get_or xs x 0) next (up j (omega arith)) in
    ⊎_elim
    (λ (e : i ≡ j). subst (λ x. get_or xs x 0 < get_or xs (suc j) 0) (sym e) step)
    (λ (ne : i ≡ j → ⊥). let before = later_greater xs up i j (omega arith) (omega arith) in omega arith)
    (cases_eq i j)

-- so the one that isn't greater isn't later
not_later : (xs : List ℕ) → IsStrictlyIncreasing xs → (i j : ℕ) → i < length xs → get_or xs i 0 ≤ get_or xs j 0 → i ≤ j
not_later xs up i j h le =
    ⊎_elim (λ (less : j < i). let more = later_greater xs up j i less h in absurd (omega arith)) (λ (le : i ≤ j). le) (cases_lt j i)

-- ---- a multiple of each number of a list

abbrev pub times : ℕ → List ℕ → List ℕ
times k xs = map (λ x. k * x) xs

module _ (k : ℕ) (grows : (x y : ℕ) → x < y → k * x < k * y) (shrinks : (x y : ℕ) → k * x ≤ k * y → x ≤ y) where
  times-at : (xs : List ℕ) (i : ℕ) → i < length xs → get_or (times k xs) i 0 ≡ k * get_or xs i 0
  times-at xs i h = get_or-map (λ x. k * x) xs i 0 0 h

  times-length : (xs : List ℕ) → length (times k xs) ≡ length xs
  times-length xs = length-map xs (λ x. k * x)

  times_rise : (xs : List ℕ) → IsStrictlyIncreasing xs → IsStrictlyIncreasing (times k xs)
  times_rise xs up i h =
      let n = times-length xs in
      let a = times-at xs i (omega arith) in
      let b = times-at xs (i + 1) (omega arith) in
      let less = grows (get_or xs i 0) (get_or xs (i + 1) 0) (up i (omega arith)) in
      omega arith

  times_from : (xs : List ℕ) (z : ℕ) → Contains (times k xs) z → (y : ℕ) × Contains xs y × (z ≡ k * y)
  times_from xs z c =
      let n = times-length xs in
      let x = at_place (times k xs) z c in
      let within : x.0 < length xs = subst (λ m. x.0 < m) n x.1 in
      (get_or xs x.0 0, there xs (get_or xs x.0 0) x.0 within refl, sym x.2 ∙ times-at xs x.0 within)

  times_to : (xs : List ℕ) (y : ℕ) → Contains xs y → Contains (times k xs) (k * y)
  times_to xs y c =
      let n = times-length xs in
      let x = at_place xs y c in
      there (times k xs) (k * y) x.0 (subst (λ m. x.0 < m) (sym n) x.1) (times-at xs x.0 x.1 ∙ ap (λ w. k * w) x.2)

  times_reach : (xs : List ℕ) (y : ℕ) → Reaches (times k xs) (k * y) → Reaches xs y
  times_reach xs y r =
      let n = times-length xs in
      let x = reached_at (times k xs) (k * y) r in
      let within : x.0 < length xs = subst (λ m. x.0 < m) n x.1 in
      reaches xs y x.0 within (shrinks y (get_or xs x.0 0) (subst (λ w. k * y ≤ w) (times-at xs x.0 within) x.2))

grow_two : (x y : ℕ) → x < y → 2 * x < 2 * y
grow_two x y h = omega arith

shrink_two : (x y : ℕ) → 2 * x ≤ 2 * y → x ≤ y
shrink_two x y h = omega arith

grow_three : (x y : ℕ) → x < y → 3 * x < 3 * y
grow_three x y h = omega arith

shrink_three : (x y : ℕ) → 3 * x ≤ 3 * y → x ≤ y
shrink_three x y h = omega arith

grow_five : (x y : ℕ) → x < y → 5 * x < 5 * y
grow_five x y h = omega arith

shrink_five : (x y : ℕ) → 5 * x ≤ 5 * y → x ≤ y
shrink_five x y h = omega arith

-- ---- the first ones

pub none_first : AreFirstHamming []
none_first =
    record {
      rise = λ k h. absurd (omega arith);
      only = λ z c. let none = c.1 in absurd (omega arith);
      each = λ z h r. let none = r.2 in absurd (omega arith);
    }

-- a list with a head that comes before all that follow
rise_after : (x : ℕ) (xs : List ℕ) → IsStrictlyIncreasing xs → ((z : ℕ) → Contains xs z → x < z) → IsStrictlyIncreasing (x ∷ xs)
rise_after x xs up above zero h = above (get_or xs 0 0) (there xs (get_or xs 0 0) 0 (omega arith) refl)
rise_after x xs up above (suc k) h =
    let next : k + 1 ≡ suc k = omega arith in
    let next' : suc k + 1 ≡ suc (k + 1) = omega arith in
    subst (λ (n : ℕ). get_or xs k 0 < get_or (x ∷ xs) n 0) (sym next') (up k (omega arith))

head_or_later : (x : ℕ) (xs : List ℕ) (z : ℕ) → Contains (x ∷ xs) z → (x ≡ z) ⊎ Contains xs z
head_or_later x xs z c = at c.0 c.1 c.2
  where
    at : (i : ℕ) → i < length (x ∷ xs) → get_or (x ∷ xs) i z ≡ z → (x ≡ z) ⊎ Contains xs z
    at zero h e = inl e
    at (suc i) h e = inr (i, omega arith, e)

in_later : (x : ℕ) (xs : List ℕ) (z : ℕ) → Contains xs z → Contains (x ∷ xs) z
in_later x xs z c = let within = c.1 in (suc c.0, omega arith, c.2)

reaches_later : (x : ℕ) (xs : List ℕ) (z : ℕ) → x < z → Reaches (x ∷ xs) z → Reaches xs z
reaches_later x xs z less r = at r.0 r.1 r.2 r.3 r.4
  where
    at : (i w : ℕ) → i < length (x ∷ xs) → get_or (x ∷ xs) i w ≡ w → z ≤ w → Reaches xs z
    at zero w h e le = absurd (omega arith)
    at (suc i) w h e le = (i, w, omega arith, e, le)

-- doubles, triples and quintuples of first ones, merged
abbrev pub next_of : List ℕ → List ℕ → List ℕ → List ℕ
next_of xs ys zs = merged (times 2 xs) (merged (times 3 ys) (times 5 zs))

module _ (union : MergeIsUnion) (xs ys zs : List ℕ) (fx : AreFirstHamming xs) (fy : AreFirstHamming ys) (fz : AreFirstHamming zs) where
  abbrev inner : List ℕ
  inner = merged (times 3 ys) (times 5 zs)

  inner_union : IsRisingUnion (times 3 ys) (times 5 zs) inner
  inner_union = union (times 3 ys) (times 5 zs) (times_rise 3 grow_three shrink_three ys fy.rise) (times_rise 5 grow_five shrink_five zs fz.rise)

  outer_union : IsRisingUnion (times 2 xs) inner (next_of xs ys zs)
  outer_union = union (times 2 xs) inner (times_rise 2 grow_two shrink_two xs fx.rise) inner_union.rises

  -- each of them is Hamming's, and more than 1
  next_only : (z : ℕ) → Contains (next_of xs ys zs) z → IsHamming z × (1 < z)
  next_only z c =
      ⊎_elim
      (λ (a : Contains (times 2 xs) z).
      let y = times_from 2 grow_two shrink_two xs z a in
      let h = fx.only y.0 y.1 in
      let pos = positive y.0 h in
      let same = y.2 in
      (subst (λ w. IsHamming w) (sym y.2) (twice y.0 h), omega arith))
      (λ (b : Contains inner z).
      ⊎_elim
      (λ (a : Contains (times 3 ys) z).
      let y = times_from 3 grow_three shrink_three ys z a in
      let h = fy.only y.0 y.1 in
      let pos = positive y.0 h in
      let same = y.2 in
      (subst (λ w. IsHamming w) (sym y.2) (thrice y.0 h), omega arith))
      (λ (a : Contains (times 5 zs) z).
      let y = times_from 5 grow_five shrink_five zs z a in
      let h = fz.only y.0 y.1 in
      let pos = positive y.0 h in
      let same = y.2 in
      (subst (λ w. IsHamming w) (sym y.2) (five_times y.0 h), omega arith))
      ((inner_union.members z).0 b).0)
      ((outer_union.members z).0 c).0

  -- what it reaches the three reach
  next_reaches : (z : ℕ) → Reaches (next_of xs ys zs) z → Reaches (times 2 xs) z × Reaches (times 3 ys) z × Reaches (times 5 zs) z × Reaches inner z
  next_reaches z r =
      let x = reached_at (next_of xs ys zs) z r in
      let w = get_or (next_of xs ys zs) x.0 0 in
      let o = (outer_union.members w).0 (there (next_of xs ys zs) w x.0 x.1 refl) in
      let y = reached_at inner w o.2 in
      let v = get_or inner y.0 0 in
      let i = (inner_union.members v).0 (there inner v y.0 y.1 refl) in
      let le : z ≤ w = x.2 in
      let le' : w ≤ v = y.2 in (
        reaches_less (times 2 xs) z w le o.1,
        reaches_less (times 3 ys) z v (omega arith) i.1,
        reaches_less (times 5 zs) z v (omega arith) i.2,
        reaches_less inner z w le o.2,
      )

  -- and none is missing
  next_each : (z : ℕ) → IsHamming z → 1 < z → Reaches (next_of xs ys zs) z → Contains (next_of xs ys zs) z
  next_each z h more r =
      let s = next_reaches z r in
      ⊎_elim (λ (e : z ≡ 1). absurd (omega arith))
      (λ (o : IsTimes 2 z ⊎ (IsTimes 3 z ⊎ IsTimes 5 z)).
      ⊎_elim
      (λ (y : IsTimes 2 z).
      let c = fx.each y.0 y.1 (times_reach 2 grow_two shrink_two xs y.0 (subst (λ w. Reaches (times 2 xs) w) y.2 s.0)) in
      (outer_union.members z).1 (inl (subst (λ w. Contains (times 2 xs) w) (sym y.2) (times_to 2 grow_two shrink_two xs y.0 c)), s.0, s.3))
      (λ (o : IsTimes 3 z ⊎ IsTimes 5 z).
      let i : Contains (times 3 ys) z ⊎ Contains (times 5 zs) z =
      ⊎_elim
      (λ (y : IsTimes 3 z).
      let c = fy.each y.0 y.1 (times_reach 3 grow_three shrink_three ys y.0 (subst (λ w. Reaches (times 3 ys) w) y.2 s.1)) in
      inl (subst (λ w. Contains (times 3 ys) w) (sym y.2) (times_to 3 grow_three shrink_three ys y.0 c)))
      (λ (y : IsTimes 5 z).
      let c = fz.each y.0 y.1 (times_reach 5 grow_five shrink_five zs y.0 (subst (λ w. Reaches (times 5 zs) w) y.2 s.2)) in
      inr (subst (λ w. Contains (times 5 zs) w) (sym y.2) (times_to 5 grow_five shrink_five zs y.0 c)))
      o in
      (outer_union.members z).1 (inr ((inner_union.members z).1 (i, s.1, s.2)), s.0, s.3))
      o)
      (factor h.twos h.threes h.fives z h.is)

  -- so with 1 before them they are the first ones
  pub next_first : AreFirstHamming (1 ∷ next_of xs ys zs)
  next_first =
      record {
        rise = rise_after 1 (next_of xs ys zs) outer_union.rises (λ z c. (next_only z c).1);
        only = λ z c. ⊎_elim (λ (e : 1 ≡ z). subst (λ w. IsHamming w) e one_is_hamming) (λ (d : Contains (next_of xs ys zs) z). (next_only z d).0) (head_or_later 1 (next_of xs ys zs) z c);
        each = λ z h r.
            ⊎_elim
            (λ (more : 1 < z). in_later 1 (next_of xs ys zs) z (next_each z h more (reaches_later 1 (next_of xs ys zs) z more r)))
            (λ (le : z ≤ 1). let pos = positive z h in let e : 1 ≡ z = omega arith in (0, omega arith, e))
            (cases_lt 1 z);
      }

-- of first ones the first n are first ones
pub take_first : (n : ℕ) (xs : List ℕ) → AreFirstHamming xs → AreFirstHamming (take n xs)
take_first n xs f =
    let l = length-take n xs in
    record {
      rise = λ k h.
          let a = get_or-take n xs k 0 (omega arith) in
          let b = get_or-take n xs (k + 1) 0 (omega arith) in
          let less = f.rise k (omega arith) in
          omega arith;
      only = λ z c.
          let x = at_place (take n xs) z c in
          let within = x.1 in
          f.only z (there xs z x.0 (omega arith) (sym (get_or-take n xs x.0 0 (omega arith)) ∙ x.2));
      each = λ z h r.
          let x = reached_at (take n xs) z r in
          let within = x.1 in
          let above : z ≤ get_or xs x.0 0 = subst (λ w. z ≤ w) (get_or-take n xs x.0 0 (omega arith)) x.2 in
          let y = at_place xs z (f.each z h (reaches xs z x.0 (omega arith) above)) in
          let early = not_later xs f.rise y.0 x.0 y.1 (subst (λ w. w ≤ get_or xs x.0 0) (sym y.2) above) in
          there (take n xs) z y.0 (omega arith) (get_or-take n xs y.0 0 (omega arith) ∙ y.2);
    }

-- place i of first ones is at most 2^i
pub at_most_power : (xs : List ℕ) → AreFirstHamming xs → (i : ℕ) → i < length xs → get_or xs i 0 ≤ 2 ^ i
at_most_power xs f zero h =
    let first = get_or xs 0 0 in
    let pos = positive first (f.only first (there xs first 0 h refl)) in
    let y = at_place xs 1 (f.each 1 one_is_hamming (reaches xs 1 0 h pos)) in
    ⊎_elim
    (λ (e : 0 ≡ y.0). let same : first ≡ 1 = ap (λ j. get_or xs j 0) e ∙ y.2 in omega arith)
    (λ (ne : 0 ≡ y.0 → ⊥). let less = later_greater xs f.rise 0 y.0 (omega arith) y.1 in let one = y.2 in absurd (omega arith))
    (cases_eq 0 y.0)
at_most_power xs f (suc i) h =
    let w = get_or xs i 0 in
    let before = at_most_power xs f i (omega arith) in
    let power = pow-suc 2 i in
    let least : get_or xs (suc i) 0 ≤ 2 * w =
    ⊎_elim
    (λ (more : 2 * w < get_or xs (suc i) 0).
    let ham = f.only w (there xs w i (omega arith) refl) in
    let pos = positive w ham in
    let y = at_place xs (2 * w) (f.each (2 * w) (twice w ham) (reaches xs (2 * w) (suc i) h (omega arith))) in
    let is = y.2 in
    let late = not_later xs f.rise i y.0 (omega arith) (omega arith) in
    ⊎_elim
    (λ (e : i ≡ y.0). let same : w ≡ 2 * w = ap (λ j. get_or xs j 0) e ∙ y.2 in absurd (omega arith))
    (λ (ne : i ≡ y.0 → ⊥).
    ⊎_elim
    (λ (later : suc i < y.0). let greater = later_greater xs f.rise (suc i) y.0 later y.1 in absurd (omega arith))
    (λ (le : y.0 ≤ suc i). let e : y.0 ≡ suc i = omega arith in let same : get_or xs (suc i) 0 ≡ 2 * w = ap (λ j. get_or xs j 0) (sym e) ∙ y.2 in absurd (omega arith))
    (cases_lt (suc i) y.0))
    (cases_eq i y.0))
    (λ (le : get_or xs (suc i) 0 ≤ 2 * w). le)
    (cases_lt (2 * w) (get_or xs (suc i) 0)) in
    omega arith

-- so the first 62 are small
pub few_are_small : FewAreSmall
few_are_small n few xs f short z c =
    let x = at_place xs z c in
    let within = x.1 in
    let power = at_most_power xs f x.0 x.1 in
    let grown : 2 ^ x.0 ≤ 2 ^ 61 = pow-le-pow_right {n = 2} (omega arith) {i = x.0} {j = 61} (omega arith) in
    let is = x.2 in
    omega arith

-- of small ones a product by 5 or less fits into 64 bits
products-small : (k : ℕ) → k ≤ 5 → (xs : List ℕ) → ((z : ℕ) → Contains xs z → 5 * z < 2 ^ 64) → products k xs ≡ times k xs
products-small k few [] h = refl
products-small k few (x ∷ xs) h =
    let small = h x (0, omega arith, refl) in
    let most : k * x ≤ 5 * x = mul-le-mul_right x few in
    let fits : k * x < 2 ^ 64 = omega arith in
    ap (λ y. y ∷ products k xs) (mod-eq_of_lt fits) ∙ ap (λ l. k * x ∷ l) (products-small k few xs (λ z c. h z (in_later x xs z c)))

pub products-first : (n : ℕ) → AreSmall n → (k : ℕ) → k ≤ 5 → (xs : List ℕ) → AreFirstHamming xs → length xs ≤ n → products k xs ≡ times k xs
products-first n small k few xs f short = products-small k few xs (small xs f short)

-- a list of first ones has a last one; what is merged of its multiples has the double of that
pub double_of_last :
    MergeIsUnion → (xs : List ℕ) → AreFirstHamming xs → (i : ℕ) → i < length xs → Contains (next_of xs xs xs) (2 * get_or xs i 0)
double_of_last union xs f i h =
    let w = get_or xs i 0 in
    let c : Contains xs w = there xs w i h refl in
    let pos = positive w (f.only w c) in
    let two = times_to 2 grow_two shrink_two xs w c in
    let three = times_to 3 grow_three shrink_three xs w c in
    let five = times_to 5 grow_five shrink_five xs w c in
    let less : 3 * w ≤ 5 * w = omega arith in
    let less' : 2 * w ≤ 3 * w = omega arith in
    let in_inner = ((inner_union union xs xs xs f f f).members (3 * w)).1 (inl three, reaches_own (times 3 xs) (3 * w) three, reaches_less (times 5 xs) (3 * w) (5 * w) less (reaches_own (times 5 xs) (5 * w) five)) in
    ((outer_union union xs xs xs f f f).members (2 * w)).1
    (inl two, reaches_own (times 2 xs) (2 * w) two, reaches_less (inner union xs xs xs f f f) (2 * w) (3 * w) less' (reaches_own (inner union xs xs xs f f f) (3 * w) in_inner))

-- so first ones that are the first n of 1 and what is merged of their multiples are n
pub all_through : MergeIsUnion → (n : ℕ) (xs : List ℕ) → AreFirstHamming xs → xs ≡ take n (1 ∷ next_of xs xs xs) → n ≤ length xs
all_through union n xs f e = ⊎_elim (λ (short : length xs < n). absurd (too_short short)) (λ (le : n ≤ length xs). le) (cases_lt (length xs) n)
  where
    too_short : length xs < n → ⊥
    too_short short =
        let s = 1 ∷ next_of xs xs xs in
        let l : length xs ≡ min n (length s) = ap length e ∙ length-take n s in
        let whole : xs ≡ s = e ∙ take_all n s (omega arith) in
        let some : length xs ≡ suc (length (next_of xs xs xs)) = ap length whole in
        let i = length xs - 1 in
        let w = get_or xs i 0 in
        let h : i < length xs = omega arith in
        let c : Contains s (2 * w) = in_later 1 (next_of xs xs xs) (2 * w) (double_of_last union xs f i h) in
        let y = at_place xs (2 * w) (subst (λ l. Contains l (2 * w)) (sym whole) c) in
        let within = y.1 in
        let is = y.2 in
        let late = not_later xs f.rise i y.0 h (omega arith) in
        let same : i ≡ y.0 = omega arith in
        let double : w ≡ 2 * w = ap (λ j. get_or xs j 0) same ∙ y.2 in
        let pos = positive w (f.only w (there xs w i h refl)) in
        omega arith
