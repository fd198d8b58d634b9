-- A history as each process and each channel sees it.
use Rattle.std.proofs.Common.{◌≡◌, inl, inr, List, [], ◌∷◌, ◌++◌, refl, sym, ap, ◌∙◌, append-nil, ℕ, ◌==◌, if◌then◌else◌, Bool, true, false, eq-eqb}
use Rattle.std.proofs.lemmas.Grind.{flat_map-append}
use Rattle.kpn_model.specs.History.{IsPrefixOf, ArePrefixComparable, deed_by, deeds, put_by_deed, put_by_entry, put_on, taken_by_deed, taken_by_entry, taken, growth_of, growths, grown}
use Rattle.kpn_model.specs.declared.token.Token.{Token}
use Rattle.kpn_model.specs.declared.history.Deed.{Deed}
use Rattle.kpn_model.specs.declared.history.Deed.TheVariants.{Took, Put}
use Rattle.kpn_model.specs.declared.history.Entry.{Entry}
use Rattle.kpn_model.specs.declared.history.Entry.TheVariants.{Did, Grew}
use Rattle.kpn_laws.specs.Alone.{puts, took}

-- what two lists of deeds put is what the first puts and then the second
pub puts-append : (xs ys : List Deed) (c : ℕ) → puts (xs ++ ys) c ≡ puts xs c ++ puts ys c
puts-append xs ys c = flat_map-append (put_by_deed c) xs ys

-- what two lists of deeds took is what the first took and then the second
pub took-append : (xs ys : List Deed) (c : ℕ) → took (xs ++ ys) c ≡ took xs c ++ took ys c
took-append xs ys c = flat_map-append (taken_by_deed c) xs ys

-- the deeds of two histories in turn are those of the first and then those of the second
pub deeds-append : (E F : List Entry) (p : ℕ) → deeds (E ++ F) p ≡ deeds E p ++ deeds F p
deeds-append E F p = flat_map-append (deed_by p) E F

-- what is put on a channel in two histories in turn
pub put_on-append : (E F : List Entry) (c : ℕ) → put_on (E ++ F) c ≡ put_on E c ++ put_on F c
put_on-append E F c = flat_map-append (put_by_entry c) E F

-- what is taken from a channel in two histories in turn
pub taken-append : (E F : List Entry) (c : ℕ) → taken (E ++ F) c ≡ taken E c ++ taken F c
taken-append E F c = flat_map-append (taken_by_entry c) E F

-- the growths of two histories in turn
pub growths-append : (E F : List Entry) → growths (E ++ F) ≡ growths E ++ growths F
growths-append E F = flat_map-append growth_of E F

-- one more deed of p is one more in p's list
pub deeds_push_same : (E : List Entry) (p : ℕ) (d : Deed) → deeds (E ++ Did p d ∷ []) p ≡ deeds E p ++ d ∷ []
deeds_push_same E p d = deeds-append E (Did p d ∷ []) p ∙ ap (λ b. deeds E p ++ ((if b then d ∷ [] else []) ++ [])) (eq-eqb p p refl)

-- and none in any other's
pub deeds_push_other : (E : List Entry) (p q : ℕ) (d : Deed) → (p == q) ≡ false → deeds (E ++ Did p d ∷ []) q ≡ deeds E q
deeds_push_other E p q d h = deeds-append E (Did p d ∷ []) q ∙ ap (λ b. deeds E q ++ ((if b then d ∷ [] else []) ++ [])) h ∙ append-nil (deeds E q)

-- a growth is no deed
pub deeds_push_grew : (E : List Entry) (c to q : ℕ) → deeds (E ++ Grew c to ∷ []) q ≡ deeds E q
deeds_push_grew E c to q = deeds-append E (Grew c to ∷ []) q ∙ append-nil (deeds E q)

-- a deed is no growth
pub growths_push_did : (E : List Entry) (p : ℕ) (d : Deed) → growths (E ++ Did p d ∷ []) ≡ growths E
growths_push_did E p d = growths-append E (Did p d ∷ []) ∙ append-nil (growths E)

-- one more growth is the last of the list
pub growths_push_grew : (E : List Entry) (c to : ℕ) → growths (E ++ Grew c to ∷ []) ≡ growths E ++ (c, to) ∷ []
growths_push_grew E c to = growths-append E (Grew c to ∷ [])

-- after one more growth that channel has the new capacity and each other what it had
pub grown_push : (gs : List (ℕ × ℕ)) (n c to b : ℕ) → grown n (gs ++ (c, to) ∷ []) b ≡ (if c == b then to else grown n gs b)
grown_push [] n c to b = refl
grown_push (g ∷ gs) n c to b = both (g.0 == b) (c == b) _ _ _ _ (grown_push gs g.1 c to b) (grown_push gs n c to b)
  where
    both : (x y : Bool) (k l m o : ℕ) → k ≡ (if y then to else m) → l ≡ (if y then to else o) → (if x then k else l) ≡ (if y then to else (if x then m else o))
    both true y k l m o e f = e
    both false y k l m o e f = f

-- a deed that puts nothing on c puts nothing there whether it counts or not
puts_of_choice : (b : Bool) (d : Deed) (c : ℕ) → puts (d ∷ []) c ≡ [] → puts ((if b then d ∷ [] else []) ++ []) c ≡ []
puts_of_choice true d c e = e
puts_of_choice false d c e = refl

-- a deed that takes nothing from c takes nothing there whether it counts or not
took_of_choice : (b : Bool) (d : Deed) (c : ℕ) → took (d ∷ []) c ≡ [] → took ((if b then d ∷ [] else []) ++ []) c ≡ []
took_of_choice true d c e = e
took_of_choice false d c e = refl

-- a deed that puts nothing on c leaves what each process has put there
pub puts_push_none : (E : List Entry) (p q : ℕ) (d : Deed) (c : ℕ) → puts (d ∷ []) c ≡ [] → puts (deeds (E ++ Did p d ∷ []) q) c ≡ puts (deeds E q) c
puts_push_none E p q d c e =
    ap (λ l. puts l c) (deeds-append E (Did p d ∷ []) q) ∙ puts-append (deeds E q) (deeds (Did p d ∷ []) q) c
    ∙ ap (λ l. puts (deeds E q) c ++ l) (puts_of_choice (p == q) d c e) ∙ append-nil _

-- a deed that takes nothing from c leaves what each process has taken there
pub took_push_none : (E : List Entry) (p q : ℕ) (d : Deed) (c : ℕ) → took (d ∷ []) c ≡ [] → took (deeds (E ++ Did p d ∷ []) q) c ≡ took (deeds E q) c
took_push_none E p q d c e =
    ap (λ l. took l c) (deeds-append E (Did p d ∷ []) q) ∙ took-append (deeds E q) (deeds (Did p d ∷ []) q) c
    ∙ ap (λ l. took (deeds E q) c ++ l) (took_of_choice (p == q) d c e) ∙ append-nil _

-- p's deed adds what it puts to what p has put
pub puts_push_same : (E : List Entry) (p : ℕ) (d : Deed) (c : ℕ) → puts (deeds (E ++ Did p d ∷ []) p) c ≡ puts (deeds E p) c ++ puts (d ∷ []) c
puts_push_same E p d c = ap (λ l. puts l c) (deeds_push_same E p d) ∙ puts-append (deeds E p) (d ∷ []) c

-- p's deed adds what it takes to what p has taken
pub took_push_same : (E : List Entry) (p : ℕ) (d : Deed) (c : ℕ) → took (deeds (E ++ Did p d ∷ []) p) c ≡ took (deeds E p) c ++ took (d ∷ []) c
took_push_same E p d c = ap (λ l. took l c) (deeds_push_same E p d) ∙ took-append (deeds E p) (d ∷ []) c

-- a put on c puts its token there
pub puts_one : (c : ℕ) (t : Token) → puts (Put c t ∷ []) c ≡ t ∷ []
puts_one c t = ap (λ b. (if b then t ∷ [] else []) ++ []) (eq-eqb c c refl)

-- a take from c takes its token there
pub took_one : (c : ℕ) (t : Token) → took (Took c t ∷ []) c ≡ t ∷ []
took_one c t = ap (λ b. (if b then t ∷ [] else []) ++ []) (eq-eqb c c refl)

-- a put on another channel puts nothing on c
pub puts_other : (b c : ℕ) (t : Token) → (b == c) ≡ false → puts (Put b t ∷ []) c ≡ []
puts_other b c t h = ap (λ x. (if x then t ∷ [] else []) ++ []) h

-- a take from another channel takes nothing from c
pub took_other : (b c : ℕ) (t : Token) → (b == c) ≡ false → took (Took b t ∷ []) c ≡ []
took_other b c t h = ap (λ x. (if x then t ∷ [] else []) ++ []) h

-- what is put by prefix-comparable lists of deeds is prefix-comparable
pub puts_comparable : (xs ys : List Deed) (c : ℕ) → ArePrefixComparable xs ys → ArePrefixComparable (puts xs c) (puts ys c)
puts_comparable xs ys c (inl a) = inl (puts a.0 c, sym (puts-append xs a.0 c) ∙ ap (λ l. puts l c) a.1)
puts_comparable xs ys c (inr b) = inr (puts b.0 c, sym (puts-append ys b.0 c) ∙ ap (λ l. puts l c) b.1)

-- what a prefix of a list of deeds puts is a prefix of what the list puts
pub puts_prefix : (xs ys : List Deed) (c : ℕ) → IsPrefixOf xs ys → IsPrefixOf (puts xs c) (puts ys c)
puts_prefix xs ys c a = (puts a.0 c, sym (puts-append xs a.0 c) ∙ ap (λ l. puts l c) a.1)

-- what a prefix of a list of deeds takes is a prefix of what the list takes
pub took_prefix : (xs ys : List Deed) (c : ℕ) → IsPrefixOf xs ys → IsPrefixOf (took xs c) (took ys c)
took_prefix xs ys c a = (took a.0 c, sym (took-append xs a.0 c) ∙ ap (λ l. took l c) a.1)
