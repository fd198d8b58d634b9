-- Lists of which one begins with the other.
use Rattle.std.proofs.Common.{◌≡◌, ◌⊎◌, ◌≤◌, inl, inr, ⊎_elim, List, [], ◌∷◌, ◌++◌, length, refl, sym, ap, ◌∙◌, arith, append_assoc, append-nil, length-append}
use Rattle.std.proofs.lemmas.List.{append_cancel_left}
use Rattle.kpn_model.specs.History.{IsPrefixOf, ArePrefixComparable}

-- what is appended to a list without changing it is empty
nil_of_self : {X : Type 0} (xs r : List X) → xs ++ r ≡ xs → r ≡ []
nil_of_self xs r e = append_cancel_left xs r [] (e ∙ sym (append-nil xs))

-- if two lists appended are empty, the first is empty
nil_left : {X : Type 0} (r s : List X) → r ++ s ≡ [] → r ≡ []
nil_left [] s e = refl
nil_left (x ∷ r) s e = cc

-- two lists that are prefixes of each other are equal
pub same_from_prefixes : {X : Type 0} (xs ys : List X) → IsPrefixOf xs ys → IsPrefixOf ys xs → xs ≡ ys
same_from_prefixes xs ys a b =
    let e : xs ++ (a.0 ++ b.0) ≡ xs = sym (append_assoc xs a.0 b.0) ∙ ap (λ l. l ++ b.0) a.1 ∙ b.1 in
    let n = nil_left a.0 b.0 (nil_of_self xs (a.0 ++ b.0) e) in
    sym (append-nil xs) ∙ ap (λ l. xs ++ l) (sym n) ∙ a.1

-- the last element of a list that goes on after ys is the next one, or comes later
pub push_split : {X : Type 0} (xs ys zs : List X) (x y : X) → xs ++ x ∷ [] ≡ ys ++ y ∷ zs → ((xs ≡ ys) × (x ≡ y)) ⊎ ((ws : List X) × (xs ≡ ys ++ y ∷ ws))
push_split [] [] zs x y e = inl (refl, cc)
push_split [] (b ∷ []) zs x y e = cc
push_split [] (b ∷ c ∷ ys) zs x y e = cc
push_split (a ∷ xs) [] zs x y e = inr (xs, cc)
push_split (a ∷ xs) (b ∷ ys) zs x y e =
    let f : xs ++ x ∷ [] ≡ ys ++ y ∷ zs = cc in
    let h : a ≡ b = cc in
    elim (push_split xs ys zs x y f) [ inl p ↦ (let p0 = p.0 in let p1 = p.1 in inl (cc, p1)) | inr p ↦ (let q = p.1 in inr (p.0, cc)) ]

-- a list stays prefix-comparable to ys with one more element, if ys goes on with that element
pub comparable_push :
    {X : Type 0} (xs ys : List X) (d : X) → ArePrefixComparable xs ys → ((e : X) (rest : List X) → ys ≡ xs ++ e ∷ rest → d ≡ e) → ArePrefixComparable (xs ++ d ∷ []) ys
comparable_push xs ys d (inr b) h = inr (b.0 ++ d ∷ [], sym (append_assoc ys b.0 (d ∷ [])) ∙ ap (λ l. l ++ d ∷ []) b.1)
comparable_push xs ys d (inl ([], e)) h = inr (d ∷ [], ap (λ l. l ++ d ∷ []) (sym e ∙ append-nil xs))
comparable_push xs ys d (inl (f ∷ rest, e)) h =
    let g = h f rest (sym e) in
    inl (rest, append_assoc xs (d ∷ []) rest ∙ ap (λ x. xs ++ x ∷ rest) g ∙ e)

-- a list and one of its prefixes go on with the same element
same_next_in_prefix : {X : Type 0} (k r s w xs ys : List X) (t u : X) → xs ++ w ≡ ys → xs ≡ k ++ t ∷ r → ys ≡ k ++ u ∷ s → t ≡ u
same_next_in_prefix k r s w xs ys t u a e f =
    let h : t ∷ (r ++ w) ≡ u ∷ s = append_cancel_left k _ _ (sym (append_assoc k (t ∷ r) w) ∙ ap (λ l. l ++ w) (sym e) ∙ a ∙ f) in
    cc

-- two prefix-comparable lists go on with the same element
pub same_next : {X : Type 0} (xs ys k r s : List X) (t u : X) → ArePrefixComparable xs ys → xs ≡ k ++ t ∷ r → ys ≡ k ++ u ∷ s → t ≡ u
same_next xs ys k r s t u (inl a) e f = same_next_in_prefix k r s a.0 xs ys t u a.1 e f
same_next xs ys k r s t u (inr b) e f = sym (same_next_in_prefix k s r b.0 ys xs u t b.1 f e)

-- a prefix of a prefix is a prefix
pub prefix_trans : {X : Type 0} (xs ys zs : List X) → IsPrefixOf xs ys → IsPrefixOf ys zs → IsPrefixOf xs zs
prefix_trans xs ys zs a b = (a.0 ++ b.0, sym (append_assoc xs a.0 b.0) ∙ ap (λ l. l ++ b.0) a.1 ∙ b.1)

-- a list is a prefix of itself with one more element
pub prefix_of_push : {X : Type 0} (xs : List X) (x : X) → IsPrefixOf xs (xs ++ x ∷ [])
prefix_of_push xs x = (x ∷ [], refl)

-- a prefix is no longer than the whole
pub prefix-length : {X : Type 0} (xs ys : List X) → IsPrefixOf xs ys → length xs ≤ length ys
prefix-length xs ys a = omega (arith, length-append xs a.0, ap length a.1)

-- a prefix is the whole, or the whole goes on after it
pub prefix_cases : {X : Type 0} (xs ys : List X) → IsPrefixOf xs ys → (xs ≡ ys) ⊎ ((e : X) × ((rest : List X) × (ys ≡ xs ++ e ∷ rest)))
prefix_cases xs ys ([], e) = inl (sym (append-nil xs) ∙ e)
prefix_cases xs ys (f ∷ rest, e) = inr (f, (rest, sym e))

-- a prefix with the next element of the whole is a prefix
pub prefix_to_push : {X : Type 0} (xs ys rest : List X) (e d : X) → ys ≡ xs ++ e ∷ rest → d ≡ e → IsPrefixOf (xs ++ d ∷ []) ys
prefix_to_push xs ys rest e d h g = (rest, append_assoc xs (d ∷ []) rest ∙ ap (λ x. xs ++ x ∷ rest) g ∙ sym h)

-- prefix-comparable lists stay so with the same list before both
pub comparable_after : {X : Type 0} (ts xs ys : List X) → ArePrefixComparable xs ys → ArePrefixComparable (ts ++ xs) (ts ++ ys)
comparable_after ts xs ys (inl a) = inl (a.0, append_assoc ts xs a.0 ∙ ap (λ l. ts ++ l) a.1)
comparable_after ts xs ys (inr b) = inr (b.0, append_assoc ts ys b.0 ∙ ap (λ l. ts ++ l) b.1)

-- the prefixes of a list with one more element
pub prefix_push_cases : {X : Type 0} (gs xs : List X) (x : X) → IsPrefixOf gs (xs ++ x ∷ []) → (gs ≡ xs ++ x ∷ []) ⊎ IsPrefixOf gs xs
prefix_push_cases gs xs x ([], e) = inl (sym (append-nil gs) ∙ e)
prefix_push_cases gs xs x (y ∷ ys, e) =
    ⊎_elim (λ p. inr ([], append-nil gs ∙ sym p.0)) (λ q. inr (y ∷ q.0, sym q.1)) (push_split xs gs ys x y (sym e))
