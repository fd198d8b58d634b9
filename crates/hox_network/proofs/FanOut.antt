-- Lists that are made item by item: of each item in its place, the last that passes a test, and free names.
use Rattle.std.proofs.Common.{◌≡◌, ◌<◌, ◌+◌, ℕ, zero, suc, Bool, true, false, cond, if◌then◌else◌, List, [], ◌∷◌, ◌++◌, length, take, drop, get_or, map, filter, Option, Some, None, refl, ap, sym, ◌∙◌, arith}
use Rattle.std.specs.List.{range_with_len}
use Rattle.std.specs.Option.{option_map_or}
use Rattle.std.proofs.lemmas.List.{drop_more, take_more, map-append, length-take}
use Rattle.std.proofs.lemmas.List.Elements.{filter-append}
use Rattle.hox_network.specs.Copies.{each_from, last_position}

pub each_step : {A B : Type 0} (f : List A → List A → List B) (xs : List A) (c : ℕ) → c < length xs
    → each_from f (take c xs) (drop c xs) ≡ f (take c xs) (drop c xs) ++ each_from f (take (c + 1) xs) (drop (c + 1) xs)
each_step f [] c l = absurd (omega (arith, l))
each_step f (y ∷ ys) c l =
    let xs = y ∷ ys in
    let rest : drop c xs ≡ get_or xs c y ∷ drop (c + 1) xs = drop_more xs c y l in
    let front : take (c + 1) xs ≡ take c xs ++ get_or xs c y ∷ [] = take_more xs c y l in
    rw (rest, front) refl

-- one item more: it is the last, if it passes
one_more : (b : Bool) (n : ℕ) (o d : Option ℕ) → option_map_or (λ k. Some (k + 1)) (if b then Some n else o) d ≡ (if b then Some (n + 1) else option_map_or (λ k. Some (k + 1)) o d)
one_more true n o d = refl
one_more false n o d = refl

pub last_position_more : {A : Type 0} (test : A → Bool) (xs : List A) (x : A) → last_position test (xs ++ x ∷ []) ≡ (if test x then Some (length xs) else last_position test xs)
last_position_more test [] x = refl
last_position_more test (y ∷ xs) x =
    let n : length xs + 1 ≡ suc (length xs) = omega arith in
    rw (last_position_more test xs x, one_more (test x) (length xs) (last_position test xs) (if test y then Some 0 else None), n) refl

pub last_position_step : {A : Type 0} (test : A → Bool) (xs : List A) (k : ℕ) (x : A) → k < length xs → x ≡ get_or xs k x
    → last_position test (take (k + 1) xs) ≡ (if test x then Some k else last_position test (take k xs))
last_position_step test xs k x l at =
    let front : take (k + 1) xs ≡ take k xs ++ x ∷ [] = take_more xs k x l ∙ ap (λ y. take k xs ++ y ∷ []) (sym at) in
    let n : length (take k xs) ≡ k = omega (arith, length-take k xs) in
    rw (front, last_position_more test (take k xs) x, n) refl

-- item k, if it passes, is the last so far
pub nearest_step : {A : Type 0} (test : A → Bool) (xs : List A) (k : ℕ) (x : A) (b : Bool) (found more : Option ℕ) → k < length xs → x ≡ get_or xs k x → b ≡ test x
    → found ≡ last_position test (take k xs) → more ≡ (if b then Some k else found) → more ≡ last_position test (take (k + 1) xs)
nearest_step test xs k x b found more l at passes so_far is = rw (is, passes, so_far, last_position_step test xs k x l at) refl

range_more : (a n : ℕ) → range_with_len a (suc n) ≡ range_with_len a n ++ (a + n) ∷ []
range_more a zero = let e : a + 0 ≡ a = omega arith in rw e refl
range_more a (suc n) =
    let e : a + 1 + n ≡ a + suc n = omega arith in
    ap (λ xs. a ∷ xs) (range_more (a + 1) n ∙ ap (λ m. range_with_len (a + 1) n ++ m ∷ []) e)

-- one number more: its name, if it passes
pub filter_numbers_more : (test : List ℕ → Bool) (name : ℕ → List ℕ) (k : ℕ)
    → filter test (map name (range_with_len 0 (k + 1))) ≡ filter test (map name (range_with_len 0 k)) ++ cond (test (name k)) (name k ∷ []) []
filter_numbers_more test name k =
    let n : k + 1 ≡ suc k = omega arith in
    let z : 0 + k ≡ k = omega arith in
    let more : range_with_len 0 (k + 1) ≡ range_with_len 0 k ++ k ∷ [] =
    ap (λ (m : ℕ). range_with_len 0 m) n ∙ (range_more 0 k ∙ ap (λ (m : ℕ). range_with_len 0 k ++ m ∷ []) z) in
    ap (λ (ks : List ℕ). filter test (map name ks)) more
    ∙ (ap (λ (ns : List (List ℕ)). filter test ns) (map-append name (range_with_len 0 k) (k ∷ [])) ∙ filter-append test (map name (range_with_len 0 k)) (name k ∷ []))
