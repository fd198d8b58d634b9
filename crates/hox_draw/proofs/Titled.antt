-- Titles, one after another.
use Rattle.std.proofs.Common.{◌≡◌, ℕ, ◌<◌, List, [], ◌∷◌, ◌++◌, EachIndex, below_more, get_or, length, refl, subst, sym}
use Rattle.std.proofs.lemmas.List.{get_or_append_left, get_or_push, length_push}

-- what holds of the item at each place holds with one more, of which it holds at its place
pub each_more : {A : Type 0} (P : ℕ → A → Type 0) (d : A) (xs ys : List A) (x : A) (n : ℕ) → length xs ≡ n → EachIndex xs (λ i. P i (get_or xs i d)) → P n x → ys ≡ xs ++ x ∷ [] → EachIndex ys (λ i. P i (get_or ys i d))
each_more {A} P d xs ys x n long each one is =
    let more : List A = xs ++ x ∷ [] in
    let before : (i : ℕ) → i < length xs → P i (get_or more i d) = λ i within. subst (P i) (sym (get_or_append_left xs (x ∷ []) d i within)) (each i within) in
    let last : P (length xs) (get_or more (length xs) d) = subst (P (length xs)) (sym (get_or_push xs x d (length xs) refl)) (rw long one) in
    rw is (λ i within. below_more (λ k. P k (get_or more k d)) (length xs) before last i (rw (length_push xs x) at within))
