-- The first of some that tells, one after the other.
use Rattle.std.proofs.Common.{◌≡◌, ◌<◌, ◌≤◌, ◌+◌, ◌++◌, ℕ, zero, suc, Bool, true, false, List, [], ◌∷◌, Bor, map, Option, Some, None, get_or, length, drop, take, if◌then◌else◌, add-one, refl, sym, ap, subst, ◌∙◌, arith}
use Rattle.std.proofs.Math.Seq.{drop-cons}
use Rattle.std.proofs.lemmas.List.{length-map, take_all, take_more}
use Rattle.std.proofs.lemmas.List.Elements.{All-append}
use Rattle.std.specs.List.{All, Contains, after_first}
use Rattle.hox_files.specs.Formats.{format_text, is_equals, is_text_of}
use Rattle.hox_files.proofs.Zipped.{mapped_at, same_default}

-- what is left from a place on is that element and what is left after it
pub left_at : {X : Type 0} (xs : List X) (k : ℕ) (d : X) → k < length xs → drop k xs ≡ get_or xs k d ∷ drop (k + 1) xs
left_at xs k d h = drop-cons xs k d h ∙ ap (λ i. get_or xs k d ∷ drop i xs) (sym (add-one k))

-- a text that is the first of a channel, or is none of it
found_by : (b : Bool) (x y : List ℕ) (more : Option (List ℕ)) → Some x ≡ (if b then Some y else None) → Some x ≡ (if b then Some y else more)
found_by true x y more e = e
found_by false x y more e = cc

said_by : (b : Bool) (x y : List ℕ) → Some x ≡ (if b then Some y else None) → x ≡ y
said_by true x y e = cc
said_by false x y e = cc

passed_by : (b : Bool) (y : List ℕ) (more : Option (List ℕ)) → None ≡ (if b then Some y else None) → (if b then Some y else more) ≡ more
passed_by true y more e = cc
passed_by false y more e = refl

abbrev pub texts_of : List (Bor (List ℕ)) → List (List ℕ)
texts_of texts = map (λ (t : Bor (List ℕ)). t.now) texts

module _ (channel : List ℕ) (texts : List (Bor (List ℕ))) (k : ℕ) (d : Bor (List ℕ)) (within : k < length texts) where
  next_text : format_text channel (texts_of (drop k texts)) ≡ (if is_text_of channel (get_or texts k d).now then Some (after_first is_equals (get_or texts k d).now) else format_text channel (texts_of (drop (k + 1) texts)))
  next_text = ap (λ l. format_text channel (texts_of l)) (left_at texts k d within)

  pub text_found : (x : List ℕ) → Some x ≡ (if is_text_of channel (get_or texts k d).now then Some (after_first is_equals (get_or texts k d).now) else None) → Some x ≡ format_text channel (texts_of (drop k texts))
  text_found x e = found_by (is_text_of channel (get_or texts k d).now) x (after_first is_equals (get_or texts k d).now) (format_text channel (texts_of (drop (k + 1) texts))) e ∙ sym next_text

  pub text_said : (x : List ℕ) → Some x ≡ (if is_text_of channel (get_or texts k d).now then Some (after_first is_equals (get_or texts k d).now) else None) → x ≡ after_first is_equals (get_or texts k d).now
  text_said x e = said_by (is_text_of channel (get_or texts k d).now) x (after_first is_equals (get_or texts k d).now) e

  pub text_passed : None ≡ (if is_text_of channel (get_or texts k d).now then Some (after_first is_equals (get_or texts k d).now) else None) → format_text channel (texts_of (drop k texts)) ≡ format_text channel (texts_of (drop (k + 1) texts))
  text_passed e = next_text ∙ passed_by (is_text_of channel (get_or texts k d).now) (after_first is_equals (get_or texts k d).now) (format_text channel (texts_of (drop (k + 1) texts))) e

-- the text at a place is among them
pub text_among : (texts : List (Bor (List ℕ))) (k : ℕ) (d : Bor (List ℕ)) → k < length texts → Contains (texts_of texts) (get_or texts k d).now
text_among texts k d within = (
  k,
  omega (arith, length-map texts (λ (t : Bor (List ℕ)). t.now), within),
  mapped_at (λ (t : Bor (List ℕ)). t.now) texts k (get_or texts k d) ∙ ap (λ (t : Bor (List ℕ)). t.now) (same_default texts k (get_or texts k d) d within),
)

-- what holds of the first texts and of the next
texts_snoc : (xs : List (Bor (List ℕ))) (x : Bor (List ℕ)) → texts_of (xs ++ x ∷ []) ≡ texts_of xs ++ x.now ∷ []
texts_snoc [] x = refl
texts_snoc (y ∷ ys) x = ap (λ l. y.now ∷ l) (texts_snoc ys x)

one_only : (P : List ℕ → Type 0) (x : List ℕ) → P x → All P (x ∷ [])
one_only P x h zero d below = h
one_only P x h (suc k) d below = absurd (omega (arith, below))

pub one_text_more : (P : List ℕ → Type 0) (texts : List (Bor (List ℕ))) (k : ℕ) (d : Bor (List ℕ)) → k < length texts → All P (texts_of (take k texts)) → P (get_or texts k d).now → All P (texts_of (take (k + 1) texts))
one_text_more P texts k d within all here =
    let next : texts_of (take (k + 1) texts) ≡ texts_of (take k texts) ++ (get_or texts k d).now ∷ [] = ap texts_of (take_more texts k d within) ∙ texts_snoc (take k texts) (get_or texts k d) in
    subst (All P) (sym next) (All-append P (texts_of (take k texts)) ((get_or texts k d).now ∷ []) all (one_only P (get_or texts k d).now here))

pub all_texts : (P : List ℕ → Type 0) (texts : List (Bor (List ℕ))) (k : ℕ) → length texts ≤ k → All P (texts_of (take k texts)) → All P (texts_of texts)
all_texts P texts k past all = subst (λ l. All P (texts_of l)) (take_all k texts past) all
