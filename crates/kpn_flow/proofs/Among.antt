-- Some channel of a list passes a test, or none does.
use Rattle.std.proofs.Common.{◌≡◌, List, [], ◌∷◌, refl, ℕ, ◌==◌, Bool, true, false, ◌||◌, not, if◌then◌else◌, subst, eqb-true, eq-eqb}
use Rattle.std.proofs.lemmas.Bool.{or_parts, or_left, or_right}
use Rattle.std.specs.List.{list_any}
use Rattle.kpn_flow.specs.Flows.{is_among, without}

-- a channel of the list that passes
pub any_found : (test : ℕ → Bool) (xs : List ℕ) → list_any test xs ≡ true → (c : ℕ) × (is_among xs c ≡ true) × (test c ≡ true)
any_found test [] e = cc
any_found test (x ∷ xs) e = by_test (test x) refl e (λ f. any_found test xs f)
  where
    by_test :
        (b : Bool) → test x ≡ b → (b || list_any test xs) ≡ true → (list_any test xs ≡ true → (c : ℕ) × (is_among xs c ≡ true) × (test c ≡ true))
        → (c : ℕ) × (is_among (x ∷ xs) c ≡ true) × (test c ≡ true)
    by_test true h f later = (x, or_left (x == x) (is_among xs x) (eq-eqb x x refl), h)
    by_test false h f later = let r = later f in (r.0, or_right (x == r.0) (is_among xs r.0) r.1, r.2)

-- if none passes, this one doesn't
pub none_found : (test : ℕ → Bool) (xs : List ℕ) (c : ℕ) → list_any test xs ≡ false → is_among xs c ≡ true → test c ≡ false
none_found test [] c e h = cc
none_found test (x ∷ xs) c e h = by_test (x == c) refl h (λ g. none_found test xs c (or_parts (test x) (list_any test xs) e).1 g)
  where
    by_test : (b : Bool) → (x == c) ≡ b → (b || is_among xs c) ≡ true → (is_among xs c ≡ true → test c ≡ false) → test c ≡ false
    by_test true f g later = subst (λ y. test y ≡ false) (eqb-true x c f) (or_parts (test x) (list_any test xs) e).0
    by_test false f g later = later g

-- what is left of a list was in it
pub among_all : (xs : List ℕ) (c d : ℕ) → is_among (without xs c) d ≡ true → is_among xs d ≡ true
among_all [] c d e = e
among_all (x ∷ xs) c d e = by_test (not (x == c)) (among_all xs c d) e
  where
    by_test : (b : Bool) → (is_among (without xs c) d ≡ true → is_among xs d ≡ true) → list_any (λ y. y == d) (if b then x ∷ without xs c else without xs c) ≡ true → is_among (x ∷ xs) d ≡ true
    by_test true later f = by_head (x == d) f
      where
        by_head : (b : Bool) → (b || is_among (without xs c) d) ≡ true → (b || is_among xs d) ≡ true
        by_head true g = refl
        by_head false g = later g
    by_test false later f = or_right (x == d) (is_among xs d) (later f)
