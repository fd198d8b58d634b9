-- The functions of the standard kinds, from numbers or flags read to those written.
use Rattle.std.specs.Prelude.{ℕ, zero, suc, ◌+◌, ◌-◌, ◌*◌, ◌%◌, ◌^◌, ◌==◌, nat_lt, if◌then◌else◌, Bool, true, false, List, [], ◌∷◌, map, zip, filter}
use Rattle.kpn_model.specs.declared.token.Token.{Token}
use Rattle.kpn_model.specs.declared.token.Token.TheVariants.{Word, Flag}

abbrev pub words : List ℕ → List Token
words xs = map (λ x. Word x) xs

abbrev pub flags : List Bool → List Token
flags fs = map (λ f. Flag f) fs

abbrev pub sums : List ℕ → List ℕ → List ℕ
sums xs ys = map (λ p. (p.0 + p.1) % 2 ^ 64) (zip xs ys)

abbrev pub products : ℕ → List ℕ → List ℕ
products k xs = map (λ x. (k * x) % 2 ^ 64) xs

abbrev pub divided : ℕ → List ℕ → List Bool
divided m xs = map (λ x. x % m == 0) xs

-- weave: takes a number of the second stream, then `left` more; `first` makes the rest
abbrev pub woven_second : (List ℕ → List ℕ) → ℕ → List ℕ → List ℕ
woven_second first left [] = []
woven_second first zero (y ∷ ys) = y ∷ first ys
woven_second first (suc left) (y ∷ ys) = y ∷ woven_second first left ys

-- takes a number of the first stream, then `left` more; then it is the second's turn
abbrev pub woven_first : ℕ → ℕ → ℕ → List ℕ → List ℕ → List ℕ
woven_first a b left [] ys = []
woven_first a b zero (x ∷ xs) ys = x ∷ woven_second (woven_first a b (a - 1) xs) (b - 1) ys
woven_first a b (suc left) (x ∷ xs) ys = x ∷ woven_first a b left xs ys

-- weave: a numbers of the first stream, then b of the second, in turn
abbrev pub woven : ℕ → ℕ → List ℕ → List ℕ → List ℕ
woven a b xs ys = woven_first a b (a - 1) xs ys

-- the lesser of two heads, before what follows if it is the first, the second or both
abbrev pub lesser_first : ℕ → ℕ → List ℕ → List ℕ → List ℕ → List ℕ
lesser_first x y first second both =
    if nat_lt x y then x ∷ first else if nat_lt y x then y ∷ second else x ∷ both

-- merge: the lesser of the two heads, one of two equal ones; x is the head of the first stream, and `rest`
-- merges its other numbers with a second stream
abbrev pub merged_with : ℕ → (List ℕ → List ℕ) → List ℕ → List ℕ
merged_with x rest [] = []
merged_with x rest (y ∷ ys) = lesser_first x y (rest (y ∷ ys)) (merged_with x rest ys) (rest ys)

abbrev pub merged : List ℕ → List ℕ → List ℕ
merged [] ys = []
merged (x ∷ xs) ys = merged_with x (merged xs) ys

-- switch: the numbers whose flag is true
abbrev pub flagged : List Bool → List ℕ → List ℕ
flagged fs xs = map (λ p. p.1) (filter (λ p. p.0) (zip fs xs))

-- select: the next number of the second stream if the flag is true, else of the first
abbrev pub selected : List Bool → List ℕ → List ℕ → List ℕ
selected (true ∷ fs) xs (y ∷ ys) = y ∷ selected fs xs ys
selected (false ∷ fs) (x ∷ xs) ys = x ∷ selected fs xs ys
selected fs xs ys = []
