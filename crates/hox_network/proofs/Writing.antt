-- Processes written out, one after another.
use Rattle.std.proofs.Common.{◌≡◌, refl, List, [], ◌∷◌, ◌++◌}
use Rattle.std.specs.List.{AllZip}

-- one more item on both sides
pub zip_more : {A B : Type 0} (R : A → B → Type 0) (xs : List A) (ys zs : List B) (x : A) (y : B) → AllZip R xs ys → R x y → zs ≡ ys ++ y ∷ [] → AllZip R (xs ++ x ∷ []) zs
zip_more R [] [] zs x y all one is = rw is (one, tt)
zip_more R [] (b ∷ ys) zs x y all one is = absurd all
zip_more R (a ∷ xs) [] zs x y all one is = absurd all
zip_more R (a ∷ xs) (b ∷ ys) zs x y all one is = rw is (all.0, zip_more R xs ys (ys ++ y ∷ []) x y all.1 one refl)
