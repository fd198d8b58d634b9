-- Which tokens fit a layout, one list after another.
use Rattle.std.proofs.Common.{◌≡◌, ◌<◌, ◌+◌, ◌++◌, ◌||◌, ◌&&◌, ℕ, zero, suc, Bool, true, false, cond, not, List, [], ◌∷◌, Some, length, take, get_or, refl, sym, ap, ◌∙◌, arith, append-nil}
use Rattle.std.proofs.lemmas.Bool.{and_parts}
use Rattle.std.proofs.lemmas.List.{length-take-le}
use Rattle.std.proofs.lemmas.List.Folds.{list_all-append}
use Rattle.std.proofs.lemmas.List.Quantifiers.{position-Some}
use Rattle.std.proofs.lemmas.List.Sums.{sum_by-append, take_while-cons}
use Rattle.std.specs.List.{count_by, list_all, position, take_while}
use Rattle.kpn_model.specs.declared.token.Token.{Token}
use Rattle.kpn_model.specs.declared.token.Token.TheVariants.{Word}
use Rattle.kpn_tokens.specs.declared.layouts.Layout.{Layout}
use Rattle.kpn_tokens.specs.Records.{clips, fits, misfits}
use Rattle.hox_stream.specs.Ports.{are_written, clipped_of, written_of}

module _ (f : Token → Bool) where
  choice : (y z : Bool) (t : Token) (a b : List Token) → cond y (t ∷ cond z a b) [] ≡ cond (y && z) (t ∷ a) (cond y (t ∷ b) [])
  choice true true t a b = refl
  choice true false t a b = refl
  choice false z t a b = refl

  -- those from the front on that pass, of two lists
  front_both : (ts us : List Token) → take_while f (ts ++ us) ≡ cond (list_all f ts) (ts ++ take_while f us) (take_while f ts)
  front_both [] us = refl
  front_both (t ∷ ts) us =
      take_while-cons f t (ts ++ us) ∙ ap (λ (l : List Token). cond (f t) (t ∷ l) []) (front_both ts us) ∙ choice (f t) (list_all f ts) t (ts ++ take_while f us) (take_while f ts)
      ∙ ap (λ (l : List Token). cond (f t && list_all f ts) (t ∷ (ts ++ take_while f us)) l) (sym (take_while-cons f t ts))

  -- all are, if all pass
  front_all : (ts : List Token) → list_all f ts ≡ true → take_while f ts ≡ ts
  front_all [] e = refl
  front_all (t ∷ ts) e =
      let both = and_parts (f t) (list_all f ts) e in
      take_while-cons f t ts ∙ ap (λ y. cond y (t ∷ take_while f ts) []) both.0 ∙ ap (λ (l : List Token). t ∷ l) (front_all ts both.1)

  unlike : (y : Bool) → not y ≡ true → y ≡ false
  unlike true e = cc
  unlike false e = refl

  alike : (y : Bool) → not y ≡ false → y ≡ true
  alike true e = refl
  alike false e = cc

  front_at : (ts : List Token) (k : ℕ) → k < length ts → not (f (get_or ts k (Word 0))) ≡ true → ((j : ℕ) → j < k → not (f (get_or ts j (Word 0))) ≡ false)
      → (take_while f ts ≡ take k ts) × (list_all f ts ≡ false)
  front_at [] k within bad fine = absurd (omega (arith, within))
  front_at (t ∷ ts) zero within bad fine =
      let e = unlike (f t) bad in
      (take_while-cons f t ts ∙ ap (λ y. cond y (t ∷ take_while f ts) []) e, ap (λ y. y && list_all f ts) e)
  front_at (t ∷ ts) (suc k) within bad fine =
      let e = alike (f t) (fine 0 (omega arith)) in
      let r = front_at ts k (omega (arith, within)) bad (λ j h. fine (suc j) (omega (arith, h))) in
      (take_while-cons f t ts ∙ ap (λ y. cond y (t ∷ take_while f ts) []) e ∙ ap (λ (l : List Token). t ∷ l) r.0, ap (λ y. y && list_all f ts) e ∙ r.1)

  -- the place of the first that does not pass
  pub front_to : (ts : List Token) (k : ℕ) → position (λ t. not (f t)) ts ≡ Some k → (take_while f ts ≡ take k ts) × (list_all f ts ≡ false) × (k ≡ length (take_while f ts))
  front_to ts k e =
      let h = position-Some (λ t. not (f t)) ts k (Word 0) e in
      let r = front_at ts k h.0 h.1 h.2 in
      (r.0, r.1, (let few : length (take k ts) ≡ k = length_of ts k h.0 in sym few) ∙ ap (λ (l : List Token). length l) (sym r.0))
    where
      length_of : (xs : List Token) (n : ℕ) → n < length xs → length (take n xs) ≡ n
      length_of xs n h = length-take-le n xs (omega (arith, h))

  -- all pass if none is counted that does not
  pub all_if_none : (ts : List Token) → count_by (λ t. not (f t)) ts ≡ 0 → list_all f ts ≡ true
  all_if_none [] e = refl
  all_if_none (t ∷ ts) e = by (f t) (all_if_none ts) (sym (sum_by-append (λ t. cond (not (f t)) 1 0) (t ∷ []) ts) ∙ e)
    where
      by : (y : Bool) → (count_by (λ t. not (f t)) ts ≡ 0 → list_all f ts ≡ true) → (0 + cond (not y) 1 0) + count_by (λ t. not (f t)) ts ≡ 0 → (y && list_all f ts) ≡ true
      by true rec h = rec (omega (arith, h))
      by false rec h = absurd (omega (arith, h))

written_shape : (m c z : Bool) (ts us front some : List Token) → (z ≡ true → some ≡ ts)
    → cond m [] (cond c (ts ++ us) (cond z (ts ++ front) some)) ≡ cond m [] (cond c ts some) ++ cond (m || not (c || z)) [] (cond c us front)
written_shape true c z ts us front some h = refl
written_shape false true z ts us front some h = refl
written_shape false false true ts us front some h = ap (λ (l : List Token). l ++ front) (sym (h refl))
written_shape false false false ts us front some h = sym (append-nil some)

misfit_shape : (m c z w : Bool) → ((m || not (c || z)) || not (c || w)) ≡ (m || not (c || (z && w)))
misfit_shape true c z w = refl
misfit_shape false true z w = refl
misfit_shape false false true w = refl
misfit_shape false false false w = refl

clipped_shape : (m c z : Bool) (a b : ℕ) → cond m 0 (cond c (a + b) 0) ≡ cond m 0 (cond c a 0) + cond (m || not (c || z)) 0 (cond c b 0)
clipped_shape true c z a b = refl
clipped_shape false true z a b = refl
clipped_shape false false true a b = refl
clipped_shape false false false a b = refl

module _ (layout : Layout) (m : Bool) (ts us : List Token) where
  pub written_both : written_of layout m (ts ++ us) ≡ written_of layout m ts ++ written_of layout (m || not (are_written layout ts)) us
  written_both =
      ap (λ (l : List Token). cond m [] (cond (clips layout) (ts ++ us) l)) (front_both (fits layout) ts us)
      ∙ written_shape m (clips layout) (list_all (fits layout) ts) ts us (take_while (fits layout) us) (take_while (fits layout) ts) (front_all (fits layout) ts)

  pub misfit_both : ((m || not (are_written layout ts)) || not (are_written layout us)) ≡ (m || not (are_written layout (ts ++ us)))
  misfit_both = misfit_shape m (clips layout) (list_all (fits layout) ts) (list_all (fits layout) us) ∙ ap (λ y. m || not (clips layout || y)) (sym (list_all-append (fits layout) ts us))

  pub clipped_both : clipped_of layout m (ts ++ us) ≡ clipped_of layout m ts + clipped_of layout (m || not (are_written layout ts)) us
  clipped_both =
      ap (λ n. cond m 0 (cond (clips layout) n 0)) (sum_by-append (λ t. cond (not (fits layout t)) 1 0) ts us)
      ∙ clipped_shape m (clips layout) (list_all (fits layout) ts) (misfits layout ts) (misfits layout us)

-- nothing is written of no tokens
pub written_none : (layout : Layout) (m : Bool) → written_of layout m [] ≡ []
written_none layout true = refl
written_none layout false = by (clips layout)
  where
    by : (c : Bool) → (let none : List Token = [] in cond c none none ≡ [])
    by true = refl
    by false = refl

pub misfit_none : (layout : Layout) (m : Bool) → m ≡ (m || not (are_written layout []))
misfit_none layout true = refl
misfit_none layout false = by (clips layout)
  where
    by : (c : Bool) → false ≡ (false || not (c || true))
    by true = refl
    by false = refl

pub clipped_none : (layout : Layout) (m : Bool) → clipped_of layout m [] ≡ 0
clipped_none layout true = refl
clipped_none layout false = by (clips layout)
  where
    by : (c : Bool) → (let none : ℕ = 0 in cond c none none ≡ none)
    by true = refl
    by false = refl

-- all is written where none is clipped unless that is allowed
pub all_written : (layout : Layout) (ts : List Token) (n : ℕ) → n ≡ misfits layout ts → (clips layout ≡ false → n ≡ 0) → are_written layout ts ≡ true
all_written layout ts n count unclipped = by (clips layout) refl
  where
    by : (c : Bool) → clips layout ≡ c → (c || list_all (fits layout) ts) ≡ true
    by true e = refl
    by false e = all_if_none (fits layout) ts (sym count ∙ unclipped e)

pub written_all : (layout : Layout) (ts : List Token) → are_written layout ts ≡ true → written_of layout false ts ≡ ts
written_all layout ts h = by (clips layout) h
  where
    by : (c : Bool) → (c || list_all (fits layout) ts) ≡ true → cond c ts (take_while (fits layout) ts) ≡ ts
    by true e = refl
    by false e = front_all (fits layout) ts e

pub clipped_all : (layout : Layout) (ts : List Token) (n : ℕ) → n ≡ misfits layout ts → (clips layout ≡ false → n ≡ 0) → n ≡ clipped_of layout false ts
clipped_all layout ts n count unclipped = by (clips layout) refl
  where
    by : (c : Bool) → clips layout ≡ c → n ≡ cond c (misfits layout ts) 0
    by true e = count
    by false e = unclipped e

-- up to a token that does not fit
pub written_to : (layout : Layout) (ts : List Token) (k : ℕ) → clips layout ≡ false → position (λ t. not (fits layout t)) ts ≡ Some k
    → (written_of layout false ts ≡ take k ts) × (are_written layout ts ≡ false) × (k ≡ length (written_of layout false ts)) × (clipped_of layout false ts ≡ 0)
written_to layout ts k unclipped e =
    let r = front_to (fits layout) ts k e in
    let some : written_of layout false ts ≡ take_while (fits layout) ts = ap (λ c. cond c ts (take_while (fits layout) ts)) unclipped in
    (some ∙ r.0, ap (λ c. c || list_all (fits layout) ts) unclipped ∙ r.1, r.2 ∙ ap (λ (l : List Token). length l) (sym some), ap (λ c. cond c (misfits layout ts) 0) unclipped)
