-- A name with a number behind it is no copy's.
use Rattle.std.proofs.Common.{◌≡◌, ℕ, Bool, true, false, ◌&&◌, nat_eq, List, [], ◌∷◌, ◌++◌, refl}
use Rattle.std.proofs.lemmas.Bool.{or_from}
use Rattle.std.specs.Prelude.{codes, bytes_eq}
use Rattle.kpn_picture.specs.Picture.{is_copy}

abbrev HasNoSpace : List ℕ → Type 0
HasNoSpace [] = Unit {0}
HasNoSpace (b ∷ bs) = (nat_eq 32 b ≡ false) × HasNoSpace bs

both_false : (a b : Bool) → b ≡ false → (a && b) ≡ false
both_false true b is = is
both_false false b is = refl

-- a text with a space is none without
spaced : (w d v : List ℕ) → HasNoSpace v → bytes_eq (w ++ 32 ∷ d) v ≡ false
spaced [] d [] none = refl
spaced [] d (b ∷ bs) none = rw none.0 refl
spaced (x ∷ w) d [] none = refl
spaced (x ∷ w) d (b ∷ bs) none = both_false (nat_eq x b) (bytes_eq (w ++ 32 ∷ d) bs) (spaced w d bs none.1)

pub numbered_is_no_copy : (w d : List ℕ) → is_copy (w ++ (codes " " ++ d)) ≡ false
numbered_is_no_copy w d =
    or_from (bytes_eq (w ++ 32 ∷ d) (codes "copy")) (bytes_eq (w ++ 32 ∷ d) (codes "copy_flags"))
    (spaced w d (codes "copy") (refl, (refl, (refl, (refl, tt)))))
    (spaced w d (codes "copy_flags") (refl, (refl, (refl, (refl, (refl, (refl, (refl, (refl, (refl, (refl, tt)))))))))))
