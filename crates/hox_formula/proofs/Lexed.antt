-- Symbols that bytes spell, put together.
use Rattle.std.proofs.Common.{◌≡◌, ◌∙◌, ℕ, suc, ◌<◌, ◌≤◌, ◌==◌, Bool, true, false, ◌&&◌, if◌then◌else◌, List, [], ◌∷◌, ◌++◌, Option, Some, None, length, refl, sym, ap, subst, append_assoc, arith}
use Rattle.std.specs.Prelude.{option_map}
use Rattle.std.specs.declared.vec.Vec.{Vec}
use Rattle.std.proofs.lemmas.Bool.{eq-eqb, eqb-true}
use Rattle.hox_formula.specs.declared.symbol.Mark.{Mark}
use Rattle.hox_formula.specs.declared.symbol.Symbol.{Symbol}
use Rattle.hox_formula.specs.Grammar.{sign}
use Rattle.hox_formula.specs.Lexing.{is_blank, is_word_byte, begins_with_word_byte, begins_pair, single_mark, front_word, behind_word, same, place_in, word_symbol, texts, Spells, ended, blank, pair, single, word, PairAt, SpellsMark, SpellsNothing, SpellsSo, IsPlaceOf, IsWordOf, IsNext}

pub pair_spells : (bytes left : List ℕ) (m : Mark) → PairAt bytes left m → SpellsMark bytes left m
pair_spells bytes left m p =
    (λ names more rest. subst (λ (bs : List ℕ). Spells names bs (sign m ∷ more)) (sym p.2) (pair p.0 p.1 left m more p.3 rest), omega (arith, ap length p.2))

pub single_spells : (bytes left : List ℕ) (a : ℕ) (m : Mark) → bytes ≡ a ∷ left → begins_pair bytes ≡ false → single_mark a ≡ Some m → SpellsMark bytes left m
single_spells bytes left a m is none mark_is =
    (λ names more rest. subst (λ (bs : List ℕ). Spells names bs (sign m ∷ more)) (sym is) (single a left m more (ap begins_pair (sym is) ∙ none) mark_is rest), omega (arith, ap length is))

pub blank_skipped : (bytes rest left : List ℕ) (b : ℕ) → bytes ≡ b ∷ rest → is_blank b ≡ true → SpellsNothing rest left → SpellsNothing bytes left
blank_skipped bytes rest left b is blank_is skipped =
    (λ names more spelled. subst (λ (bs : List ℕ). Spells names bs more) (sym is) (blank b rest more blank_is (skipped.0 names more spelled)), omega (arith, ap length is, skipped.1))

kept_if : (b : Bool) (x y : Option ℕ) (i : ℕ) → ((j : ℕ) → x ≡ Some j → y ≡ Some j) → (if b then Some 0 else option_map suc x) ≡ Some i → (if b then Some 0 else option_map suc y) ≡ Some i
kept_if true x y i keeps h = h
kept_if false (Some j) y i keeps h = ap (λ (o : Option ℕ). option_map suc o) (keeps j refl) ∙ h
kept_if false None y i keeps h = cc

pub place_kept : (names later : List (List ℕ)) (w : List ℕ) (i : ℕ) → place_in names w ≡ Some i → place_in (names ++ later) w ≡ Some i
place_kept [] later w i h = cc
place_kept (n ∷ ns) later w i h = kept_if (same n w) (place_in ns w) (place_in (ns ++ later) w) i (λ j. place_kept ns later w j) h

same_refl : (w : List ℕ) → same w w ≡ true
same_refl [] = refl
same_refl (x ∷ xs) = ap (λ (b : Bool). b && same xs xs) (eq-eqb x x refl) ∙ same_refl xs

new_if : (b : Bool) (x y : Option ℕ) (n : ℕ) → (x ≡ None → y ≡ Some n) → (if b then Some 0 else option_map suc x) ≡ None → (if b then Some 0 else option_map suc y) ≡ Some (suc n)
new_if true x y n keeps h = cc
new_if false (Some j) y n keeps h = cc
new_if false None y n keeps h = ap (λ (o : Option ℕ). option_map suc o) (keeps refl)

pub new_place : (names later : List (List ℕ)) (w : List ℕ) → place_in names w ≡ None → place_in ((names ++ (w ∷ [])) ++ later) w ≡ Some (length names)
new_place [] later w h = ap (λ (b : Bool). if b then Some 0 else option_map suc (place_in later w)) (same_refl w)
new_place (n ∷ ns) later w h = new_if (same n w) (place_in ns w) (place_in ((ns ++ (w ∷ [])) ++ later) w) (length ns) (new_place ns later w) h

texts_push : {Z : Type 0} (names : List (Vec ℕ Z)) (name : Vec ℕ Z) → texts (names ++ (name ∷ [])) ≡ texts names ++ (name.items ∷ [])
texts_push [] name = refl
texts_push (n ∷ ns) name = ap (λ (ts : List (List ℕ)). n.items ∷ ts) (texts_push ns name)

texts_length : {Z : Type 0} (names : List (Vec ℕ Z)) → length (texts names) ≡ length names
texts_length [] = refl
texts_length (n ∷ ns) = ap suc (texts_length ns)

nothing_more : {A : Type 0} (xs : List A) → xs ++ [] ≡ xs
nothing_more {A = A} [] = refl
nothing_more {A = A} (x ∷ xs) = ap (λ (ys : List A). x ∷ ys) (nothing_more xs)

pub known_name : (names : List (List ℕ)) (w : List ℕ) (i : ℕ) → place_in names w ≡ Some i → IsPlaceOf names names w i
known_name names w i h = (λ later. place_kept names later w i h, ([], sym (nothing_more names)))

pub added_name : {Z : Type 0} (names more : List (Vec ℕ Z)) (name : Vec ℕ Z) (w : List ℕ) (i : ℕ) → more ≡ names ++ (name ∷ []) → name.items ≡ w → i ≡ length names → place_in (texts names) w ≡ None
    → IsPlaceOf (texts names) (texts more) w i
added_name {Z = Z} names more name w i more_is name_is i_is none =
    let all : texts more ≡ texts names ++ (w ∷ []) = ap (λ (ns : List (Vec ℕ Z)). texts ns) more_is ∙ texts_push names name ∙ ap (λ (t : List ℕ). texts names ++ (t ∷ [])) name_is in
    (λ later. ap (λ (ts : List (List ℕ)). place_in (ts ++ later) w) all ∙ new_place (texts names) later w none ∙ ap (λ (n : ℕ). Some n) (texts_length names ∙ sym i_is), (w ∷ [], all))

shorter_if : (b : Bool) (c : ℕ) (bs rest : List ℕ) → length rest ≤ length bs → length (if b then rest else c ∷ bs) ≤ length (c ∷ bs)
shorter_if true c bs rest h = omega (arith, h)
shorter_if false c bs rest h = omega arith

not_longer : (bytes : List ℕ) → length (behind_word bytes) ≤ length bytes
not_longer [] = omega arith
not_longer (b ∷ bs) = shorter_if (is_word_byte b) b bs (behind_word bs) (not_longer bs)

shorter : (bytes : List ℕ) → begins_with_word_byte bytes ≡ true → length (behind_word bytes) < length bytes
shorter [] h = cc
shorter (b ∷ bs) h =
    let is : behind_word (b ∷ bs) ≡ behind_word bs = ap (λ (t : Bool). if t then behind_word bs else b ∷ bs) h in
    omega (arith, ap length is, not_longer bs)

pub word_next : (old new : List (List ℕ)) (bytes front behind : List ℕ) (s : Symbol) → begins_with_word_byte bytes ≡ true → front ≡ front_word bytes → behind ≡ behind_word bytes → IsWordOf old new front s → IsNext old new bytes behind s
word_next old new bytes front behind s begins front_is behind_is is = (
  λ later more spelled. word bytes s more begins (ap (λ (w : List ℕ). word_symbol (new ++ later) w) (sym front_is) ∙ is.0 later) (subst (λ (bs : List ℕ). Spells (new ++ later) bs more) behind_is spelled),
  is.1,
  omega (arith, ap length behind_is, shorter bytes begins),
)

pub nothing_read : (names : List (List ℕ)) (text left : List ℕ) → SpellsNothing text left → SpellsSo names text left []
nothing_read names text left skipped later more spelled = skipped.0 (names ++ later) more spelled

pub one_more : (old new : List (List ℕ)) (text bytes behind left : List ℕ) (symbols all : List Symbol) (s : Symbol) → SpellsSo old text bytes symbols → IsNext old new bytes behind s → SpellsNothing behind left → all ≡ symbols ++ (s ∷ [])
    → SpellsSo new text left all
one_more old new text bytes behind left symbols all s so is skipped all_is later more spelled =
    let step : Spells (new ++ later) bytes (s ∷ more) = is.0 later more (skipped.0 (new ++ later) more spelled) in
    let names_are : new ++ later ≡ old ++ (is.1.0 ++ later) = ap (λ (ns : List (List ℕ)). ns ++ later) is.1.1 ∙ append_assoc old is.1.0 later in
    let whole : Spells (old ++ (is.1.0 ++ later)) text (symbols ++ (s ∷ more)) = so (is.1.0 ++ later) (s ∷ more) (subst (λ (ns : List (List ℕ)). Spells ns bytes (s ∷ more)) names_are step) in
    subst (λ (ss : List Symbol). Spells (new ++ later) text ss) (sym (ap (λ (ss : List Symbol). ss ++ more) all_is ∙ append_assoc symbols (s ∷ []) more))
    (subst (λ (ns : List (List ℕ)). Spells ns text (symbols ++ (s ∷ more))) (sym names_are) whole)

pub all_read : (names : List (List ℕ)) (text left : List ℕ) (symbols : List Symbol) → SpellsSo names text left symbols → left ≡ [] → Spells names text symbols
all_read names text left symbols so none =
    subst (λ (ns : List (List ℕ)). Spells ns text symbols) (nothing_more names)
    (subst (λ (ss : List Symbol). Spells (names ++ []) text ss) (nothing_more symbols)
    (so [] [] (subst (λ (bs : List ℕ). Spells (names ++ []) bs []) (sym none) ended)))

pub empty_bytes : (bytes : List ℕ) → (length bytes == 0) ≡ true → bytes ≡ []
empty_bytes [] h = refl
empty_bytes (b ∷ bs) h = let none : length (b ∷ bs) ≡ 0 = eqb-true (length (b ∷ bs)) 0 h in absurd (omega (arith, none))
