-- Streams that begin with a list of tokens, and the tokens at the places of a list.
use Rattle.std.proofs.Common.{◌≡◌, List, [], ◌∷◌, ◌++◌, length, refl, sym, ap, ◌∙◌, append_assoc, append-nil, ℕ, suc, zero, Some, Option, slice_get, subst}
use Rattle.std.proofs.lemmas.Option.{same_Some}
use Rattle.kpn_model.specs.declared.token.Token.{Token}
use Rattle.kpn_model.specs.History.{IsPrefixOf}
use Rattle.kpn_laws.specs.Alone.{BeginsWith}

-- a stream that begins with a list begins with each first part of it
pub begins_shorter : (s : ℕ → Option Token) (xs ys : List Token) → BeginsWith s (xs ++ ys) → BeginsWith s xs
begins_shorter s [] ys b = tt
begins_shorter s (x ∷ xs) ys b = (b.0, begins_shorter (λ n. s (suc n)) xs ys b.1)

-- and has each of its tokens
pub begins_get : (s : ℕ → Option Token) (xs : List Token) (n : ℕ) (t : Token) → BeginsWith s xs → slice_get xs n ≡ Some t → s n ≡ Some t
begins_get s [] n t b e = cc
begins_get s (x ∷ xs) zero t b e = b.0 ∙ e
begins_get s (x ∷ xs) (suc n) t b e = begins_get (λ m. s (suc m)) xs n t b.1 e

-- a stream that has each token of a list begins with it
pub get_begins : (s : ℕ → Option Token) (xs : List Token) → ((n : ℕ) (t : Token) → slice_get xs n ≡ Some t → s n ≡ Some t) → BeginsWith s xs
get_begins s [] h = tt
get_begins s (x ∷ xs) h = (h 0 x refl, get_begins (λ n. s (suc n)) xs (λ n t e. h (suc n) t e))

-- the token after a first part of a list stands at the place that is as great as that part is long
pub get_at : (xs ys : List Token) (t : Token) → slice_get (xs ++ t ∷ ys) (length xs) ≡ Some t
get_at [] ys t = refl
get_at (x ∷ xs) ys t = get_at xs ys t

-- a list with a token at that place goes on with it
pub goes_on_with : (xs ys : List Token) (t : Token) → slice_get (xs ++ ys) (length xs) ≡ Some t → (rest : List Token) × (ys ≡ t ∷ rest)
goes_on_with [] [] t e = cc
goes_on_with [] (y ∷ ys) t e = (ys, ap (λ x. x ∷ ys) (same_Some y t e))
goes_on_with (x ∷ xs) ys t e = goes_on_with xs ys t e

-- a longer list has the same tokens at the places of a shorter one
get_longer : (xs ys : List Token) (n : ℕ) (t : Token) → slice_get xs n ≡ Some t → slice_get (xs ++ ys) n ≡ Some t
get_longer [] ys n t e = cc
get_longer (x ∷ xs) ys zero t e = e
get_longer (x ∷ xs) ys (suc n) t e = get_longer xs ys n t e

-- a list has the same tokens at the places of its prefix
pub get_prefix : (xs ys : List Token) (n : ℕ) (t : Token) → IsPrefixOf xs ys → slice_get xs n ≡ Some t → slice_get ys n ≡ Some t
get_prefix xs ys n t p e = sym (ap (λ l. slice_get l n) p.1) ∙ get_longer xs p.0 n t e

-- a stream that begins with a list, and has then this token, begins with both
pub begins_push : (s : ℕ → Option Token) (xs : List Token) (t : Token) → BeginsWith s xs → s (length xs) ≡ Some t → BeginsWith s (xs ++ t ∷ [])
begins_push s [] t b e = (e, tt)
begins_push s (x ∷ xs) t b e = (b.0, begins_push (λ n. s (suc n)) xs t b.1 e)

-- what holds of the empty list, and of each first part of a list with one more element if of that part, holds of the list
pub by_first_parts :
    {X : Type 0} (P : List X → Type 0) (ds : List X) → P [] → ((es : List X) (d : X) (rest : List X) → ds ≡ es ++ d ∷ rest → P es → P (es ++ d ∷ [])) → P ds
by_first_parts {X} P ds first step = on [] ds refl first
  where
    on : (before after : List X) → before ++ after ≡ ds → P before → P ds
    on before [] e p = subst P (sym (append-nil before) ∙ e) p
    on before (d ∷ after) e p = on (before ++ d ∷ []) after (append_assoc before (d ∷ []) after ∙ e) (step before d after (sym e) p)
