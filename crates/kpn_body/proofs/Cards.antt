-- Lists of bodies, by their cards.
use Rattle.std.proofs.Common.{◌≡◌, ℕ, zero, suc, ◌+◌, ◌<◌, ◌≤◌, List, [], ◌∷◌, ◌++◌, length, map, option_map, take, Some, arith, get_or, slice_get, ap, sym, ◌∙◌}
use Rattle.std.proofs.lemmas.List.{map-append, take_all}
use Rattle.std.proofs.lemmas.Option.{slice_get-map, slice_get-get_or}
use Rattle.kpn_model.specs.declared.kinds.Card.{Card}
use Rattle.kpn_model.specs.declared.parts.Process.{Process}
use Rattle.kpn_model.specs.Network.{no_process}

module _ {X : Type 0} where
  -- these are the first p items of a list
  pub record AreFirst (xs ys : List X) (p : ℕ) : Type 0 where
    pub is : xs ≡ take p ys

  -- one more item of a list is its prefix and the item after it
  pub take_one_more : (xs : List X) (p : ℕ) (x : X) → slice_get xs p ≡ Some x → take (suc p) xs ≡ take p xs ++ x ∷ []
  take_one_more [] p x e = cc
  take_one_more (y ∷ ys) zero x e = cc
  take_one_more (y ∷ ys) (suc p) x e = ap (λ zs. y ∷ zs) (take_one_more ys p x e)

module _ {X Y : Type 0} where
  -- one more body, with the next card
  pub one_more : (f : X → Y) (xs zs : List X) (ys : List Y) (p : ℕ) (x : X) → AreFirst (map f xs) ys p → zs ≡ xs ++ x ∷ [] → slice_get ys p ≡ Some (f x) → AreFirst (map f zs) ys (p + 1)
  one_more f xs zs ys p x first z g =
      let n : p + 1 ≡ suc p = omega arith in
      record { is = rw (n, z) (map-append f xs (x ∷ []) ∙ (ap (λ ws. ws ++ f x ∷ []) first.is ∙ sym (take_one_more ys p (f x) g))) }

  -- the bodies of all cards
  pub of_all : (f : X → Y) (xs : List X) (ys : List Y) (p : ℕ) → AreFirst (map f xs) ys p → length ys ≤ p → map f xs ≡ ys
  of_all f xs ys p first long = first.is ∙ take_all p ys long

module _ {X : Type 0} where
  -- one more body, with the card of the next process
  pub one_more_card : (f : X → Card) (xs zs : List X) (ps : List Process) (p : ℕ) (x : X) → AreFirst (map f xs) (map (λ q. q.card) ps) p → zs ≡ xs ++ x ∷ [] → p < length ps → f x ≡ (get_or ps p no_process).card → AreFirst (map f zs) (map (λ q. q.card) ps) (p + 1)
  one_more_card f xs zs ps p x first z within is =
      let there = slice_get-map (λ (q : Process). q.card) ps p ∙ ap (option_map (λ (q : Process). q.card)) (slice_get-get_or ps p no_process within) in
      one_more f xs zs (map (λ q. q.card) ps) p x first z (there ∙ ap (λ c. Some c) (sym is))
