-- Places of a list of channels, and what is paired with them.
use Rattle.std.proofs.Common.{◌≡◌, ◌<◌, ◌++◌, ◌==◌, ℕ, zero, suc, true, false, List, [], ◌∷◌, length, map, take, get_or, refl, sym, ap, ◌∙◌, subst, arith, eq-eqb}
use Rattle.std.proofs.lemmas.Bool.{both_ways, or_parts}
use Rattle.std.proofs.lemmas.List.{map-append, take-append-le, take_all}
use Rattle.std.proofs.lemmas.List.Folds.{list_any_at}
use Rattle.std.specs.List.{zip}
use Rattle.kpn_flow.specs.Ends.{has_twice}
use Rattle.kpn_flow.specs.Flows.{is_among}

pub empty : (xs : List ℕ) → length xs ≡ 0 → xs ≡ []
empty [] e = refl
empty (x ∷ xs) e = absurd (omega (arith, e))

-- what is written over all of a list is all that is left
pub written_back : {X : Type 0} (n : ℕ) (new more : List X) → n ≡ length new → take n (new ++ more) ≡ new
written_back n new more e = take-append-le n new more (omega (arith, e)) ∙ take_all n new (omega (arith, e))

-- what stands at a place is in the list
among_at : (xs : List ℕ) (j : ℕ) → j < length xs → is_among xs (get_or xs j 0) ≡ true
among_at xs j h = list_any_at (λ d. d == get_or xs j 0) xs j 0 h (eq-eqb (get_or xs j 0) (get_or xs j 0) refl)

-- if no channel stands in the list twice, places are told apart by their channels
pub apart : (xs : List ℕ) → has_twice xs ≡ false → (j k : ℕ) → j < length xs → k < length xs → get_or xs j 0 ≡ get_or xs k 0 → j ≡ k
apart [] once j k h i e = absurd (omega (arith, h))
apart (x ∷ xs) once zero zero h i e = refl
apart (x ∷ xs) once zero (suc k) h i e = absurd (both_ways (is_among xs x) (or_parts (is_among xs x) (has_twice xs) once).0 (subst (λ y. is_among xs y ≡ true) (sym e) (among_at xs k (omega (arith, i)))))
apart (x ∷ xs) once (suc j) zero h i e = absurd (both_ways (is_among xs x) (or_parts (is_among xs x) (has_twice xs) once).0 (subst (λ y. is_among xs y ≡ true) e (among_at xs j (omega (arith, h)))))
apart (x ∷ xs) once (suc j) (suc k) h i e = ap (λ n. suc n) (apart xs (or_parts (is_among xs x) (has_twice xs) once).1 j k (omega (arith, h)) (omega (arith, i)) e)

module _ {K X : Type 0} where
  -- what is left of a list after one of its items was paired with each of the others
  abbrev pub left_of : List K → List X → List K
  left_of ks [] = ks
  left_of [] (x ∷ xs) = []
  left_of (k ∷ ks) (x ∷ xs) = left_of ks xs

  pub zip_none : (ks : List K) → (let none : List X = [] in zip ks none ≡ [])
  zip_none [] = refl
  zip_none (k ∷ ks) = refl

  -- one more is paired
  pub zip_more : (ks : List K) (xs : List X) (x : X) (k : K) (later : List K) → left_of ks xs ≡ k ∷ later → (zip ks (xs ++ x ∷ []) ≡ zip ks xs ++ (k, x) ∷ []) × (left_of ks (xs ++ x ∷ []) ≡ later)
  zip_more [] [] x k later e = cc
  zip_more [] (y ∷ ys) x k later e = cc
  zip_more (q ∷ ks) [] x k later e =
      let first : q ≡ k = cc in
      let rest : ks ≡ later = cc in
      (ap (λ l. (q, x) ∷ l) (zip_none ks) ∙ ap (λ y. (y, x) ∷ []) first, rest)
  zip_more (q ∷ ks) (y ∷ ys) x k later e = let r = zip_more ks ys x k later e in (ap (λ l. (q, y) ∷ l) r.0, r.1)

  -- or none is left to be paired
  pub zip_over : (ks : List K) (xs : List X) (x : X) → left_of ks xs ≡ [] → (zip ks (xs ++ x ∷ []) ≡ zip ks xs) × (left_of ks (xs ++ x ∷ []) ≡ [])
  zip_over [] [] x e = (refl, refl)
  zip_over [] (y ∷ ys) x e = (refl, refl)
  zip_over (q ∷ ks) [] x e = cc
  zip_over (q ∷ ks) (y ∷ ys) x e = let r = zip_over ks ys x e in (ap (λ l. (q, y) ∷ l) r.0, r.1)

-- nothing is made of no pair
pub made_none : {K X V : Type 0} (make : K × X → V) (ks : List K) (made : List V) → made ≡ [] → (let none : List X = [] in made ≡ map make (zip ks none))
made_none make ks made e = e ∙ sym (ap (λ l. map make l) (zip_none ks))

-- one more is made of a pair
pub made_more : {K X V : Type 0} (make : K × X → V) (ks : List K) (xs : List X) (x : X) (k : K) (left later : List K) (made new : List V) (v : V) → left ≡ left_of ks xs → left ≡ k ∷ later → made ≡ map make (zip ks xs)
    → new ≡ made ++ v ∷ [] → v ≡ make (k, x) → new ≡ map make (zip ks (xs ++ x ∷ []))
made_more make ks xs x k left later made new v is_left split is_made is_new is_v =
    let e = zip_more ks xs x k later (sym is_left ∙ split) in
    is_new ∙ ap (λ l. l ++ v ∷ []) is_made ∙ ap (λ y. map make (zip ks xs) ++ y ∷ []) is_v ∙ sym (map-append make (zip ks xs) ((k, x) ∷ [])) ∙ ap (λ l. map make l) (sym e.0)

-- or none is left of which it could be made
pub made_over : {K X V : Type 0} (make : K × X → V) (ks : List K) (xs : List X) (x : X) (left : List K) (made : List V) → left ≡ left_of ks xs → left ≡ [] → made ≡ map make (zip ks xs) → made ≡ map make (zip ks (xs ++ x ∷ []))
made_over make ks xs x left made is_left split is_made = is_made ∙ ap (λ l. map make l) (sym (zip_over ks xs x (sym is_left ∙ split)).0)

-- an item that is made of a pair is told by its channel
pub made_at : {X V : Type 0} (channel : V → ℕ) (none : V) (make : ℕ × X → V) → ((p : ℕ × X) → channel (make p) ≡ p.0) → (ks : List ℕ) (xs : List X) (j : ℕ) → j < length (map make (zip ks xs))
    → (j < length ks) × (channel (get_or (map make (zip ks xs)) j none) ≡ get_or ks j 0)
made_at channel none make is [] xs j h = absurd (omega (arith, h))
made_at channel none make is (k ∷ ks) [] j h = absurd (omega (arith, h))
made_at channel none make is (k ∷ ks) (x ∷ xs) zero h = (omega arith, is (k, x))
made_at channel none make is (k ∷ ks) (x ∷ xs) (suc j) h = let r = made_at channel none make is ks xs j (omega (arith, h)) in (omega (arith, r.0), r.1)

-- what holds of each item that is made holds at each place
pub each_made : {A V : Type 0} (P : V → Type 0) (none : V) (make : A → V) → ((a : A) → P (make a)) → (xs : List A) (j : ℕ) → j < length (map make xs) → P (get_or (map make xs) j none)
each_made P none make is [] j h = absurd (omega (arith, h))
each_made P none make is (x ∷ xs) zero h = is x
each_made P none make is (x ∷ xs) (suc j) h = each_made P none make is xs j (omega (arith, h))
