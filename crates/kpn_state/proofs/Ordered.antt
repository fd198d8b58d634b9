-- The candidates for a growth while one is put in or taken out.
use Rattle.std.proofs.Common.{◌≡◌, ◌≢◌, ◌↔◌, ◌⊎◌, inl, inr, ⊎_elim, List, length, sym, ap, ◌∙◌, arith, ℕ, ◌+◌, ◌-◌, ◌<◌, ◌≤◌, get_or, subst}
use Rattle.std.specs.List.{Contains, insert, remove}
use Rattle.std.proofs.lemmas.Bool.{cases_lt}
use Rattle.std.proofs.lemmas.List.{get_or_default}
use Rattle.std.proofs.lemmas.List.Edits.{get_or-insert_at, get_or-insert_below, get_or-insert_above, get_or-remove_below, get_or-remove_above, length-insert, length-remove}
use Rattle.kpn_state.specs.Candidates.{IsBefore, IsInOrder}

-- pairs are ordered
pub before_trans : (x y z : ℕ × ℕ) → IsBefore x y → IsBefore y z → IsBefore x z
before_trans x y z a b =
    ⊎_elim
    (λ l. ⊎_elim (λ m. inl (omega arith)) (λ m. let e = m.0 in inl (omega arith)) b)
    (λ l. let e = l.0 in let f = l.1 in ⊎_elim (λ m. inl (omega arith)) (λ m. let g = m.0 in let h = m.1 in inr (omega arith, omega arith)) b)
    a

pub before_not_same : (x : ℕ × ℕ) → IsBefore x x → ⊥
before_not_same x a = ⊎_elim (λ l. omega arith) (λ l. let e = l.1 in omega arith) a

-- what a list holds at a place, whatever is read past its end
pub at_default : (xs : List (ℕ × ℕ)) (m : ℕ) (y d : ℕ × ℕ) → m < length xs → IsBefore (get_or xs m d) y → (e : ℕ × ℕ) → IsBefore (get_or xs m e) y
at_default xs m y d within b e = subst (λ z. IsBefore z y) (get_or_default xs m d e within) b

pub same_default : (xs : List (ℕ × ℕ)) (m : ℕ) (y d : ℕ × ℕ) → m < length xs → get_or xs m d ≡ y → (e : ℕ × ℕ) → get_or xs m e ≡ y
same_default xs m y d within h e = get_or_default xs m e d within ∙ h

pub not_there : (xs : List (ℕ × ℕ)) (m : ℕ) (y : ℕ × ℕ) → ((m < length xs) × (get_or xs m y ≡ y) → ⊥) → m < length xs → (d : ℕ × ℕ) → get_or xs m d ≢ y
not_there xs m y h within d e = h (within, same_default xs m y d within e y)

same_pair : (x y : ℕ × ℕ) → x.0 ≡ y.0 → x.1 ≡ y.1 → x ≡ y
same_pair x y e f = ap (λ (a : ℕ). (a, x.1)) e ∙ ap (λ (b : ℕ). (y.0, b)) f

-- of two pairs that differ one is before the other
pub before_other : (x y : ℕ × ℕ) → (IsBefore x y → ⊥) → x ≢ y → IsBefore y x
before_other x y n ne =
    ⊎_elim
    (λ (l : y.0 < x.0). inl l)
    (λ (m : x.0 ≤ y.0). ⊎_elim
    (λ (l : x.0 < y.0). absurd (n (inl l)))
    (λ (g : y.0 ≤ x.0). let e : x.0 ≡ y.0 = omega arith in ⊎_elim
    (λ (l : y.1 < x.1). inr (sym e, l))
    (λ (h : x.1 ≤ y.1). ⊎_elim (λ (l : x.1 < y.1). absurd (n (inr (e, l)))) (λ (i : y.1 ≤ x.1). absurd (ne (same_pair x y e (omega arith)))) (cases_lt x.1 y.1))
    (cases_lt y.1 x.1))
    (cases_lt x.0 y.0))
    (cases_lt y.0 x.0)

module _ (xs : List (ℕ × ℕ)) (ordered : IsInOrder xs) (y : ℕ × ℕ) where
  -- a step of the search: the pair in the middle is before y, or it isn't
  pub low_more : (m : ℕ) → m < length xs → ((d : ℕ × ℕ) → IsBefore (get_or xs m d) y) → (k : ℕ) (d : ℕ × ℕ) → k < m + 1 → IsBefore (get_or xs k d) y
  low_more m within h k d below =
      ⊎_elim
      (λ (l : k < m). before_trans (get_or xs k d) (get_or xs m d) y (ordered k m d l within) (h d))
      (λ (g : m ≤ k). let e : k ≡ m = omega arith in subst (λ n. IsBefore (get_or xs n d) y) (sym e) (h d))
      (cases_lt k m)

  pub high_less : (m : ℕ) → ((d : ℕ × ℕ) → IsBefore (get_or xs m d) y → ⊥) → (k : ℕ) (d : ℕ × ℕ) → m ≤ k → k < length xs → IsBefore (get_or xs k d) y → ⊥
  high_less m h k d from within b =
      ⊎_elim
      (λ (l : m < k). h d (before_trans (get_or xs m d) (get_or xs k d) y (ordered m k d l within) b))
      (λ (g : k ≤ m). let e : k ≡ m = omega arith in h d (subst (λ n. IsBefore (get_or xs n d) y) e b))
      (cases_lt m k)

  -- i is the place of y
  module _ (i : ℕ) (within : i ≤ length xs) (before : (k : ℕ) (d : ℕ × ℕ) → k < i → IsBefore (get_or xs k d) y) (rest : (k : ℕ) (d : ℕ × ℕ) → i ≤ k → k < length xs → IsBefore (get_or xs k d) y → ⊥) where
    module _ (absent : i < length xs → (d : ℕ × ℕ) → get_or xs i d ≢ y) where
      -- y is before what follows
      after_all : (k : ℕ) (d : ℕ × ℕ) → i ≤ k → k < length xs → IsBefore y (get_or xs k d)
      after_all k d from there =
          ⊎_elim
          (λ (l : i < k).
          before_trans y (get_or xs i d) (get_or xs k d) (before_other (get_or xs i d) y (rest i d (omega arith) (omega arith)) (absent (omega arith) d)) (ordered i k d l there))
          (λ (g : k ≤ i).
          let e : k ≡ i = omega arith in
          subst (λ n. IsBefore y (get_or xs n d)) (sym e) (before_other (get_or xs i d) y (rest i d (omega arith) (omega arith)) (absent (omega arith) d)))
          (cases_lt i k)

      at : (d : ℕ × ℕ) → get_or (insert xs i y) i d ≡ y
      at d = get_or-insert_at xs i y d within

      below : (k : ℕ) (d : ℕ × ℕ) → k < i → get_or (insert xs i y) k d ≡ get_or xs k d
      below k d l = get_or-insert_below xs i y d k l within

      above : (k : ℕ) (d : ℕ × ℕ) → i < k → get_or (insert xs i y) k d ≡ get_or xs (k - 1) d
      above k d l = let e : k ≡ (k - 1) + 1 = omega arith in ap (λ n. get_or (insert xs i y) n d) e ∙ get_or-insert_above xs i y d (k - 1) (omega arith) within

      -- with y at its place the pairs are in order
      pub ordered_insert : IsInOrder (insert xs i y)
      ordered_insert a b d less there =
          let long = length-insert xs i y within in
          ⊎_elim
          (λ (l : b < i). rw (below a d (omega arith), below b d l) (ordered a b d less (omega arith)))
          (λ (g : i ≤ b). ⊎_elim
          (λ (m : i < b). ⊎_elim
          (λ (n : a < i). rw (below a d n, above b d m) (ordered a (b - 1) d (omega arith) (omega arith)))
          (λ (n : i ≤ a). ⊎_elim
          (λ (o : i < a). rw (above a d o, above b d m) (ordered (a - 1) (b - 1) d (omega arith) (omega arith)))
          (λ (o : a ≤ i).
          let e : a ≡ i = omega arith in
          subst (λ n. IsBefore (get_or (insert xs i y) n d) (get_or (insert xs i y) b d)) (sym e) (rw (at d, above b d m) (after_all (b - 1) d (omega arith) (omega arith))))
          (cases_lt i a))
          (cases_lt a i))
          (λ (m : b ≤ i).
          let e : b ≡ i = omega arith in
          subst (λ n. IsBefore (get_or (insert xs i y) a d) (get_or (insert xs i y) n d)) (sym e) (rw (at d, below a d (omega arith)) (before a d (omega arith))))
          (cases_lt i b))
          (cases_lt b i)

      -- and they are those from before, and y
      pub contains_insert : (x : ℕ × ℕ) → Contains (insert xs i y) x ↔ ((x ≡ y) ⊎ Contains xs x)
      contains_insert x = (forth, back)
        where
          long : length (insert xs i y) ≡ length xs + 1
          long = length-insert xs i y within

          forth : Contains (insert xs i y) x → (x ≡ y) ⊎ Contains xs x
          forth c =
              let l = long in
              let there = c.1 in
              ⊎_elim
              (λ (b : c.0 < i). inr (c.0, omega arith, sym (below c.0 x b) ∙ c.2))
              (λ (g : i ≤ c.0). ⊎_elim
              (λ (a : i < c.0). inr (c.0 - 1, omega arith, sym (above c.0 x a) ∙ c.2))
              (λ (s : c.0 ≤ i). let e : c.0 ≡ i = omega arith in inl (sym c.2 ∙ ap (λ n. get_or (insert xs i y) n x) e ∙ at x))
              (cases_lt i c.0))
              (cases_lt c.0 i)

          back : (x ≡ y) ⊎ Contains xs x → Contains (insert xs i y) x
          back h =
              let l = long in
              ⊎_elim
              (λ (e : x ≡ y). (i, omega arith, at x ∙ sym e))
              (λ (c : Contains xs x).
              let there = c.1 in
              ⊎_elim
              (λ (b : c.0 < i). (c.0, omega arith, below c.0 x b ∙ c.2))
              (λ (g : i ≤ c.0). (c.0 + 1, omega arith, get_or-insert_above xs i y x c.0 g within ∙ c.2))
              (cases_lt c.0 i))
              h

      -- y was none of them
      pub was_absent : Contains xs y → ⊥
      was_absent c =
          let there = c.1 in
          ⊎_elim
          (λ (b : c.0 < i). before_not_same y (subst (λ z. IsBefore z y) c.2 (before c.0 y b)))
          (λ (g : i ≤ c.0). before_not_same y (subst (λ z. IsBefore y z) c.2 (after_all c.0 y g there)))
          (cases_lt c.0 i)

      pub contains_absent : (x : ℕ × ℕ) → Contains xs x ↔ ((x ≢ y) × Contains xs x)
      contains_absent x = (λ c. (λ e. was_absent (subst (λ z. Contains xs z) e c), c), λ h. h.1)

    module _ (there : i < length xs) (found : (d : ℕ × ℕ) → get_or xs i d ≡ y) where
      -- y is there already
      pub contains_again : (x : ℕ × ℕ) → Contains xs x ↔ ((x ≡ y) ⊎ Contains xs x)
      contains_again x = (λ c. inr c, λ h. ⊎_elim (λ (e : x ≡ y). (i, there, found x ∙ sym e)) (λ c. c) h)

      low : (k : ℕ) (d : ℕ × ℕ) → k < i → get_or (remove xs i) k d ≡ get_or xs k d
      low k d l = get_or-remove_below xs i d k l there

      high : (k : ℕ) (d : ℕ × ℕ) → i ≤ k → get_or (remove xs i) k d ≡ get_or xs (k + 1) d
      high k d l = get_or-remove_above xs i d k l there

      -- without y the pairs are in order
      pub ordered_remove : IsInOrder (remove xs i)
      ordered_remove a b d less here =
          let long = length-remove xs i there in
          ⊎_elim
          (λ (l : b < i). rw (low a d (omega arith), low b d l) (ordered a b d less (omega arith)))
          (λ (g : i ≤ b). ⊎_elim
          (λ (n : a < i). rw (low a d n, high b d g) (ordered a (b + 1) d (omega arith) (omega arith)))
          (λ (n : i ≤ a). rw (high a d n, high b d g) (ordered (a + 1) (b + 1) d (omega arith) (omega arith)))
          (cases_lt a i))
          (cases_lt b i)

      -- and they are those from before but y
      pub contains_remove : (x : ℕ × ℕ) → Contains (remove xs i) x ↔ ((x ≢ y) × Contains xs x)
      contains_remove x = (forth, back)
        where
          forth : Contains (remove xs i) x → (x ≢ y) × Contains xs x
          forth c =
              let long = length-remove xs i there in
              let here = c.1 in
              ⊎_elim
              (λ (b : c.0 < i).
              let is : get_or xs c.0 x ≡ x = sym (low c.0 x b) ∙ c.2 in
              (λ e. before_not_same y (subst (λ z. IsBefore z y) (is ∙ e) (before c.0 x b)), (c.0, omega arith, is)))
              (λ (g : i ≤ c.0).
              let is : get_or xs (c.0 + 1) x ≡ x = sym (high c.0 x g) ∙ c.2 in
              let later : IsBefore y x = subst (λ z. IsBefore y z) is (subst (λ z. IsBefore z (get_or xs (c.0 + 1) x)) (found x) (ordered i (c.0 + 1) x (omega arith) (omega arith))) in
              (λ e. before_not_same y (subst (λ z. IsBefore y z) e later), (c.0 + 1, omega arith, is)))
              (cases_lt c.0 i)

          back : (x ≢ y) × Contains xs x → Contains (remove xs i) x
          back h =
              let long = length-remove xs i there in
              let c = h.1 in
              let here = c.1 in
              ⊎_elim
              (λ (b : c.0 < i). (c.0, omega arith, low c.0 x b ∙ c.2))
              (λ (g : i ≤ c.0). ⊎_elim
              (λ (a : i < c.0).
              let e : (c.0 - 1) + 1 ≡ c.0 = omega arith in
              (c.0 - 1, omega arith, high (c.0 - 1) x (omega arith) ∙ ap (λ n. get_or xs n x) e ∙ c.2))
              (λ (s : c.0 ≤ i). let e : c.0 ≡ i = omega arith in absurd (h.0 (sym c.2 ∙ ap (λ n. get_or xs n x) e ∙ found x)))
              (cases_lt i c.0))
              (cases_lt c.0 i)
