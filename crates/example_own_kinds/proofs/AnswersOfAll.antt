-- What the bodies of all cards answer.
use Rattle.std.proofs.Common.{◌≡◌, ℕ, ◌≤◌, List, [], ◌∷◌, length, map, refl, ap, ◌∙◌}
use Rattle.std.proofs.lemmas.List.{length-map}
use Rattle.kpn_body.proofs.Cards.{AreFirst, of_all}

module _ {X Y Z : Type 0} where
  -- two maps in turn are one
  map_twice : (f : X → Y) (g : Y → Z) (xs : List X) → map (λ x. g (f x)) xs ≡ map g (map f xs)
  map_twice f g [] = refl
  map_twice f g (x ∷ xs) = ap (λ zs. g (f x) ∷ zs) (map_twice f g xs)

module _ {X Y Z W : Type 0} where
  pub answers_of_all : (f : X → Y) (h : W → Y) (g : Y → Z) (xs : List X) (ws : List W) (p : ℕ) → AreFirst (map f xs) (map h ws) p → length ws ≤ p → map (λ x. g (f x)) xs ≡ map g (map h ws)
  answers_of_all f h g xs ws p first long = map_twice f g xs ∙ ap (map g) (of_all f xs (map h ws) p first (simp length-map long))
