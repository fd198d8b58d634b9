-- What texts say of channels, one part after the other.
use Rattle.std.proofs.Common.{◌≡◌, ◌<◌, ◌≤◌, ◌+◌, ◌++◌, ℕ, zero, suc, List, [], ◌∷◌, Bor, get_or, length, drop, append_assoc, add-one, refl, sym, ap, subst, ◌∙◌, arith}
use Rattle.std.proofs.lemmas.List.{append-nil, length-map}
use Rattle.std.specs.List.{AllZip, flat_map}
use Rattle.hox_format.specs.Forms.{form}
use Rattle.hox_files.specs.declared.pairs.Pair.{Pair}
use Rattle.hox_files.specs.Formats.{IsForm}
use Rattle.hox_files.specs.Pairs.{IsPair, part_at, parts, parts_from}
use Rattle.hox_files.proofs.Firsts.{left_at, texts_of}
use Rattle.hox_files.proofs.Zipped.{mapped_at, same_default}

pub zip_append : {A B : Type 0} (R : A → B → Type 0) (xs more : List A) (ys later : List B) → AllZip R xs ys → AllZip R more later → AllZip R (xs ++ more) (ys ++ later)
zip_append R [] more [] later all rest = rest
zip_append R [] more (y ∷ ys) later all rest = absurd all
zip_append R (x ∷ xs) more [] later all rest = absurd all
zip_append R (x ∷ xs) more (y ∷ ys) later (here, all) rest = (here, zip_append R xs more ys later all rest)

-- whatever are the pairs of what is left, with those so far they are the pairs of all
abbrev pub Completes : {A B : Type 0} → (A → B → Type 0) → List A → List B → List A → Type 0
Completes {A} {B} R whole so_far left = (more : List B) → AllZip R left more → AllZip R whole (so_far ++ more)

-- those of the first that is left are there too
pub completes_more : {A B : Type 0} (R : A → B → Type 0) (whole : List A) (so_far next : List B) (first left all : List A) → Completes R whole so_far all → all ≡ first ++ left → AllZip R first next → Completes R whole (so_far ++ next) left
completes_more {A} {B} R whole so_far next first left all before is here more rest =
    subst (λ (l : List B). AllZip R whole l) (sym (append_assoc so_far next more)) (before (next ++ more) (subst (λ (l : List A). AllZip R l (next ++ more)) (sym is) (zip_append R first left next more here rest)))

-- and so are all
pub completed : {A B : Type 0} (R : A → B → Type 0) (whole : List A) (so_far : List B) (left : List A) → Completes R whole so_far left → left ≡ [] → AllZip R whole so_far
completed {A} {B} R whole so_far left before is =
    subst (λ (l : List B). AllZip R whole l) (append-nil so_far) (before [] (subst (λ (l : List A). AllZip R l []) (sym is) tt))

-- what texts say from a place on
pub parts_left : (texts : List (Bor (List ℕ))) (k : ℕ) (d : Bor (List ℕ)) → k < length texts → flat_map parts (texts_of (drop k texts)) ≡ parts (get_or texts k d).now ++ flat_map parts (texts_of (drop (k + 1) texts))
parts_left texts k d within = ap (λ (l : List (Bor (List ℕ))). flat_map parts (texts_of l)) (left_at texts k d within)

-- what a text says from a channel on
pub part_left : (file : List ℕ) (count : ℕ) (names : List (List ℕ)) (k : ℕ) → k < length names → parts_from file count k (drop k names) ≡ part_at file count k (get_or names k []) ∷ [] ++ parts_from file count (k + 1) (drop (k + 1) names)
part_left file count names k within =
    ap (parts_from file count k) (left_at names k [] within)
    ∙ ap (λ (n : ℕ). part_at file count k (get_or names k []) ∷ parts_from file count n (drop (k + 1) names)) (sym (add-one k))

-- nothing is left behind the last
pub nothing_left : {X : Type 0} (xs : List X) (k : ℕ) → length xs ≤ k → drop k xs ≡ []
nothing_left [] zero h = refl
nothing_left [] (suc k) h = refl
nothing_left (x ∷ xs) zero h = absurd (omega (arith, h))
nothing_left (x ∷ xs) (suc k) h = nothing_left xs k (omega (arith, h))

pub completes_none : {A B : Type 0} (R : A → B → Type 0) (whole : List A) (so_far : List B) → so_far ≡ [] → Completes R whole so_far whole
completes_none {A} {B} R whole so_far is more all = subst (λ (l : List B). AllZip R whole (l ++ more)) (sym is) all

-- the next pair is that of the next channel
pub pair_more :
    (formats unsigned : List (List ℕ)) (file : List ℕ) (names : List (Bor (List ℕ))) (k : ℕ) (d : Bor (List ℕ)) (pair : Pair) (before after : List Pair) → k < length names
    → after ≡ before ++ pair ∷ [] → pair.channel.now ≡ (get_or names k d).now → pair.file.now ≡ file → pair.place ≡ k → pair.count ≡ length names → IsForm formats unsigned pair.channel.now pair.file.now (form pair.format)
    → Completes (IsPair formats unsigned) (parts_from file (length names) 0 (texts_of names)) before (parts_from file (length names) k (drop k (texts_of names)))
    → Completes (IsPair formats unsigned) (parts_from file (length names) 0 (texts_of names)) after (parts_from file (length names) (k + 1) (drop (k + 1) (texts_of names)))
pair_more formats unsigned file names k d pair before after within pushed channel_is file_is place_is count_is format so_far =
    let R = IsPair formats unsigned in
    let text : Bor (List ℕ) → List ℕ = λ n. n.now in
    let inside : k < length (texts_of names) = omega (arith, length-map names text, within) in
    let at : (get_or names k d).now ≡ get_or (texts_of names) k [] = sym (mapped_at text names k d) ∙ same_default (texts_of names) k d.now [] inside in
    let is : R (part_at file (length names) k (get_or (texts_of names) k [])) pair = record { channel = channel_is ∙ at; file = file_is; place = place_is; count = count_is; format = format } in
    let whole = parts_from file (length names) 0 (texts_of names) in
    let left = parts_from file (length names) (k + 1) (drop (k + 1) (texts_of names)) in
    let first = part_at file (length names) k (get_or (texts_of names) k []) ∷ [] in
    let more = completes_more R whole before (pair ∷ []) first left (parts_from file (length names) k (drop k (texts_of names))) so_far (part_left file (length names) (texts_of names) k inside) (is, tt) in
    subst (λ (items : List Pair). Completes R whole items left) (sym pushed) more
