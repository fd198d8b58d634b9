-- Texts that are appended part by part.
use Rattle.std.proofs.Common.{◌≡◌, ◌<◌, ◌+◌, ℕ, zero, suc, List, [], ◌∷◌, ◌++◌, take, length, get_or, ap, sym, ◌∙◌, append_assoc, append-nil, arith}
use Rattle.std.specs.List.{flat_map}

-- the texts of the first items, and of one more
module _ {X : Type 0} (f : X → List ℕ) where
  flat_next : (xs : List X) (k : ℕ) (d : X) → k < length xs → flat_map f (take (suc k) xs) ≡ flat_map f (take k xs) ++ f (get_or xs k d)
  flat_next [] k d within = absurd (omega arith)
  flat_next (x ∷ xs) zero d within = append-nil (f x)
  flat_next (x ∷ xs) (suc k) d within = ap (λ l. f x ++ l) (flat_next xs k d (omega arith)) ∙ sym (append_assoc (f x) (flat_map f (take k xs)) (f (get_or xs k d)))

  pub flat_more : (xs : List X) (k : ℕ) (d : X) (old now new : List ℕ) → k < length xs → now ≡ old ++ flat_map f (take k xs) → new ≡ now ++ f (get_or xs k d) → new ≡ old ++ flat_map f (take (k + 1) xs)
  flat_more xs k d old now new within before added =
      let n : k + 1 ≡ suc k = omega arith in
      rw n (added ∙ ap (λ l. l ++ f (get_or xs k d)) before ∙ append_assoc old (flat_map f (take k xs)) (f (get_or xs k d)) ∙ ap (λ l. old ++ l) (sym (flat_next xs k d within)))
