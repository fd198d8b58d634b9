-- Lists that are made item by item of another.
use Rattle.std.proofs.Common.{◌≡◌, ◌≤◌, ◌<◌, ◌+◌, ℕ, zero, suc, Bool, true, cond, List, [], ◌∷◌, ◌++◌, length, map, take, get_or, refl, sym, subst, ap, ◌∙◌, arith}
use Rattle.std.specs.List.{AllZip, filter}
use Rattle.std.proofs.lemmas.List.{length-map, take_all, take_more}
use Rattle.std.proofs.lemmas.List.Elements.{filter_more}
use Rattle.std.proofs.lemmas.Slice.Zip.{all_zipped_more}

pub mapped_at : {C A : Type 0} (f : C → A) (cs : List C) (k : ℕ) (d : C) → get_or (map f cs) k (f d) ≡ f (get_or cs k d)
mapped_at f [] k d = refl
mapped_at f (c ∷ cs) zero d = refl
mapped_at f (c ∷ cs) (suc k) d = mapped_at f cs k d

pub same_default : {A : Type 0} (xs : List A) (k : ℕ) (d e : A) → k < length xs → get_or xs k d ≡ get_or xs k e
same_default [] k d e h = absurd (omega (arith, h))
same_default (x ∷ xs) zero d e h = refl
same_default (x ∷ xs) (suc k) d e h = same_default xs k d e (omega (arith, h))

module _ {A B : Type 0} (R : A → B → Type 0) where
  -- one item more
  pub zipped_more : (xs : List A) (k : ℕ) (x : A) (ys zs : List B) (y : B) → k < length xs → x ≡ get_or xs k x → AllZip R (take k xs) ys → zs ≡ ys ++ y ∷ [] → R x y → AllZip R (take (k + 1) xs) zs
  zipped_more xs k x ys zs y within at all pushed here =
      let more : take (k + 1) xs ≡ take k xs ++ x ∷ [] = take_more xs k x within ∙ ap (λ z. take k xs ++ z ∷ []) (sym at) in
      subst (λ l. AllZip R l zs) (sym more) (subst (λ l. AllZip R (take k xs ++ x ∷ []) l) (sym pushed) (all_zipped_more R (take k xs) ys x y all here))

  pub zipped_at : (xs : List A) (k : ℕ) (d : A) (ys zs : List B) (y : B) → k < length xs → AllZip R (take k xs) ys → zs ≡ ys ++ y ∷ [] → R (get_or xs k d) y → AllZip R (take (k + 1) xs) zs
  zipped_at xs k d ys zs y within all pushed here = zipped_more xs k (get_or xs k d) ys zs y within (same_default xs k d (get_or xs k d) within) all pushed here

  pub zipped_any : (xs : List A) (k : ℕ) (ys zs : List B) (y : B) → k < length xs → AllZip R (take k xs) ys → zs ≡ ys ++ y ∷ [] → ((x : A) → R x y) → AllZip R (take (k + 1) xs) zs
  zipped_any [] k ys zs y within all pushed each = absurd (omega (arith, within))
  zipped_any (x ∷ xs) k ys zs y within all pushed each = zipped_at (x ∷ xs) k x ys zs y within all pushed (each (get_or (x ∷ xs) k x))

  -- one item more of a list that is read through a function
  pub zipped_mapped : {C : Type 0} (f : C → A) (cs : List C) (k : ℕ) (d : C) (ys zs : List B) (y : B) → k < length cs → AllZip R (take k (map f cs)) ys → zs ≡ ys ++ y ∷ [] → R (f (get_or cs k d)) y
      → AllZip R (take (k + 1) (map f cs)) zs
  zipped_mapped {C} f cs k d ys zs y within all pushed here =
      let long : k < length (map f cs) = omega (arith, length-map cs f) in
      let at : f (get_or cs k d) ≡ get_or (map f cs) k (f (get_or cs k d)) = sym (mapped_at f cs k d) ∙ same_default (map f cs) k (f d) (f (get_or cs k d)) long in
      zipped_more (map f cs) k (f (get_or cs k d)) ys zs y long at all pushed here

  -- all items
  pub zipped_all : (xs : List A) (k : ℕ) (ys : List B) → AllZip R (take k xs) ys → length xs ≤ k → AllZip R xs ys
  zipped_all xs k ys all long = subst (λ l. AllZip R l ys) (take_all k xs long) all

  -- one item more of those that pass a test
  pub one_kept : (p : A → Bool) (xs : List A) (k : ℕ) (d : A) (ys zs : List B) (y : B) → k < length xs → p (get_or xs k d) ≡ true → AllZip R (filter p (take k xs)) ys → zs ≡ ys ++ y ∷ [] → R (get_or xs k d) y
      → AllZip R (filter p (take (k + 1) xs)) zs
  one_kept p xs k d ys zs y within passes all pushed here =
      let x : A = get_or xs k d in
      let kept = filter p (take k xs) in
      let more : filter p (take (k + 1) xs) ≡ kept ++ x ∷ [] = filter_more p xs k d within ∙ ap (λ b. kept ++ cond b (x ∷ []) []) passes in
      subst (λ (l : List A). AllZip R l zs) (sym more) (subst (λ (l : List B). AllZip R (kept ++ x ∷ []) l) (sym pushed) (all_zipped_more R kept ys x y all here))
