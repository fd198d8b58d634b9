-- Which bytes spell which symbols.
use Rattle.std.specs.Prelude.{◌≡◌, ℕ, suc, ◌+◌, ◌-◌, ◌*◌, ◌==◌, nat_lt, nat_le, Bool, true, false, ◌&&◌, ◌||◌, if◌then◌else◌, List, [], ◌∷◌, length, drop, Option, Some, None, option_map, is_some, map, take, ◌++◌, ◌≤◌, ◌<◌}
use Rattle.hox_formula.specs.declared.symbol.Mark.{Mark}
use Rattle.hox_formula.specs.declared.symbol.Mark.TheVariants as mark
use Rattle.hox_formula.specs.declared.symbol.Symbol.{Symbol}
use Rattle.hox_formula.specs.declared.symbol.Symbol.TheVariants.{Number, Input, Output, State}
use Rattle.hox_formula.specs.Grammar.{sign}
use Rattle.std.specs.declared.vec.Vec.{Vec}

abbrev pub is_blank : ℕ → Bool
is_blank b = (b == 32) || (b == 9) || (b == 10) || (b == 13)

abbrev pub is_digit : ℕ → Bool
is_digit b = nat_le 48 b && nat_le b 57

-- a letter, a digit or `_`
abbrev pub is_word_byte : ℕ → Bool
is_word_byte b = is_digit b || (nat_le 65 b && nat_le b 90) || (nat_le 97 b && nat_le b 122) || (b == 95)

-- the word at the front, and the bytes behind it
abbrev pub front_word : List ℕ → List ℕ
front_word [] = []
front_word (b ∷ bs) = if is_word_byte b then b ∷ front_word bs else []

abbrev pub behind_word : List ℕ → List ℕ
behind_word [] = []
behind_word (b ∷ bs) = if is_word_byte b then behind_word bs else b ∷ bs

abbrev pub same : List ℕ → List ℕ → Bool
same [] [] = true
same (x ∷ xs) (y ∷ ys) = (x == y) && same xs ys
same _ _ = false

-- signs of two bytes
abbrev pub pair_mark : ℕ → ℕ → Option Mark
pair_mark a b =
    if (a == 124) && (b == 124) then Some mark.OrElse else
    if (a == 38) && (b == 38) then Some mark.AndAlso else
    if (a == 61) && (b == 61) then Some mark.Equal else
    if (a == 33) && (b == 61) then Some mark.NotEqual else
    if (a == 60) && (b == 61) then Some mark.LessEqual else
    if (a == 62) && (b == 61) then Some mark.GreaterEqual else
    if (a == 60) && (b == 60) then Some mark.ShiftLeft else
    if (a == 62) && (b == 62) then Some mark.ShiftRight else
    None

abbrev pub begins_pair : List ℕ → Bool
begins_pair (a ∷ b ∷ bytes) = is_some (pair_mark a b)
begins_pair _ = false

-- signs of one
abbrev pub single_mark : ℕ → Option Mark
single_mark a =
    if a == 59 then Some mark.Semicolon else
    if a == 44 then Some mark.Comma else
    if a == 40 then Some mark.Open else
    if a == 41 then Some mark.Close else
    if a == 61 then Some mark.Assign else
    if a == 63 then Some mark.Question else
    if a == 58 then Some mark.Colon else
    if a == 124 then Some mark.Or else
    if a == 94 then Some mark.ExclusiveOr else
    if a == 38 then Some mark.And else
    if a == 60 then Some mark.Less else
    if a == 62 then Some mark.Greater else
    if a == 43 then Some mark.Plus else
    if a == 45 then Some mark.Minus else
    if a == 42 then Some mark.Times else
    if a == 47 then Some mark.Divide else
    if a == 37 then Some mark.Remain else
    if a == 126 then Some mark.Invert else
    if a == 33 then Some mark.Not else
    None

-- words that aren't names of states
abbrev pub fixed : List ℕ → Option Symbol
fixed w =
    if same w (109 ∷ 105 ∷ 110 ∷ []) then Some (sign mark.Min) else
    if same w (109 ∷ 97 ∷ 120 ∷ []) then Some (sign mark.Max) else
    if same w (97 ∷ 98 ∷ 115 ∷ []) then Some (sign mark.Abs) else
    if same w (105 ∷ 110 ∷ []) then Some (Input 0) else
    if same w (105 ∷ 110 ∷ 48 ∷ []) then Some (Input 0) else
    if same w (105 ∷ 110 ∷ 49 ∷ []) then Some (Input 1) else
    if same w (105 ∷ 110 ∷ 50 ∷ []) then Some (Input 2) else
    if same w (111 ∷ 117 ∷ 116 ∷ []) then Some (Output 0) else
    if same w (111 ∷ 117 ∷ 116 ∷ 48 ∷ []) then Some (Output 0) else
    if same w (111 ∷ 117 ∷ 116 ∷ 49 ∷ []) then Some (Output 1) else
    if same w (111 ∷ 117 ∷ 116 ∷ 50 ∷ []) then Some (Output 2) else
    None

-- the number that a digit stands for, 16 or more if it is none
abbrev pub digit_value : ℕ → ℕ
digit_value b =
    if is_digit b then b - 48 else
    if nat_le 97 b && nat_le b 102 then b - 87 else
    if nat_le 65 b && nat_le b 70 then b - 55 else
    16

-- the number of digits, behind those of the number n
abbrev pub number_of : ℕ → ℕ → List ℕ → Option ℕ
number_of base n [] = Some n
number_of base n (d ∷ ds) = if nat_lt (digit_value d) base then number_of base (n * base + digit_value d) ds else None

-- 0x, and more behind it
abbrev pub is_hexadecimal : List ℕ → Bool
is_hexadecimal (a ∷ b ∷ d ∷ ds) = (a == 48) && (b == 120)
is_hexadecimal _ = false

abbrev pub word_number : List ℕ → Option ℕ
word_number w = if is_hexadecimal w then number_of 16 0 (drop 2 w) else number_of 10 0 w

abbrev pub begins_with_digit : List ℕ → Bool
begins_with_digit (b ∷ bs) = is_digit b
begins_with_digit [] = false

abbrev pub begins_with_word_byte : List ℕ → Bool
begins_with_word_byte (b ∷ bs) = is_word_byte b
begins_with_word_byte [] = false

-- where a word stands in a table
abbrev pub place_in : List (List ℕ) → List ℕ → Option ℕ
place_in [] w = None
place_in (n ∷ ns) w = if same n w then Some 0 else option_map suc (place_in ns w)

-- a word, which isn't empty, is that symbol
abbrev pub word_symbol : List (List ℕ) → List ℕ → Option Symbol
word_symbol names w =
    if begins_with_digit w then option_map Number (word_number w) else
    if is_some (fixed w) then fixed w else
    option_map State (place_in names w)

-- The longest word or sign stands first. Blanks stand between symbols.
pub data Spells (names : List (List ℕ)) : List ℕ → List Symbol → Type 0 where
  ended : Spells names [] []
  blank : (b : ℕ) (bytes : List ℕ) (symbols : List Symbol)
      → is_blank b ≡ true → Spells names bytes symbols → Spells names (b ∷ bytes) symbols
  pair : (a b : ℕ) (bytes : List ℕ) (m : Mark) (symbols : List Symbol)
      → pair_mark a b ≡ Some m → Spells names bytes symbols → Spells names (a ∷ b ∷ bytes) (sign m ∷ symbols)
  single : (a : ℕ) (bytes : List ℕ) (m : Mark) (symbols : List Symbol)
      → begins_pair (a ∷ bytes) ≡ false → single_mark a ≡ Some m → Spells names bytes symbols
      → Spells names (a ∷ bytes) (sign m ∷ symbols)
  word : (bytes : List ℕ) (s : Symbol) (symbols : List Symbol)
      → begins_with_word_byte bytes ≡ true → word_symbol names (front_word bytes) ≡ Some s
      → Spells names (behind_word bytes) symbols → Spells names bytes (s ∷ symbols)

-- the first bytes are the word at the front, and the others stand behind it
pub record EndsWord (n : ℕ) (bytes : List ℕ) : Type 0 where
  pub within : n ≤ length bytes
  pub word : take n bytes ≡ front_word bytes
  pub behind : drop n bytes ≡ behind_word bytes

-- bytes up to those that are left spell a symbol, whatever is spelled by what is left
abbrev pub SpellsOne : List (List ℕ) → List ℕ → List ℕ → Symbol → Type 0
SpellsOne names bytes left s =
    (later : List (List ℕ)) (more : List Symbol)
    → Spells (names ++ later) left more → Spells (names ++ later) bytes (s ∷ more)

abbrev pub SpellsSo : List (List ℕ) → List ℕ → List ℕ → List Symbol → Type 0
SpellsSo names bytes left symbols =
    (later : List (List ℕ)) (more : List Symbol)
    → Spells (names ++ later) left more → Spells (names ++ later) bytes (symbols ++ more)

abbrev pub Extends : List (List ℕ) → List (List ℕ) → Type 0
Extends old new = (added : List (List ℕ)) × (new ≡ old ++ added)

abbrev pub texts : {Z : Type 0} → List (Vec ℕ Z) → List (List ℕ)
texts names = map (λ name. name.items) names

-- a symbol, and a table that has grown
abbrev pub IsWordOf : List (List ℕ) → List (List ℕ) → List ℕ → Symbol → Type 0
IsWordOf old new w s = ((later : List (List ℕ)) → word_symbol (new ++ later) w ≡ Some s) × Extends old new

abbrev pub IsPlaceOf : List (List ℕ) → List (List ℕ) → List ℕ → ℕ → Type 0
IsPlaceOf old new w i = ((later : List (List ℕ)) → place_in (new ++ later) w ≡ Some i) × Extends old new

-- a sign of two bytes, and one of one byte
abbrev pub PairAt : List ℕ → List ℕ → Mark → Type 0
PairAt bytes left m = (a : ℕ) × (b : ℕ) × (bytes ≡ a ∷ b ∷ left) × (pair_mark a b ≡ Some m)

-- whatever is spelled by what is left, the mark comes before it; or nothing does
abbrev pub PutsMark : List ℕ → List ℕ → Mark → Type 0
PutsMark bytes left m =
    (names : List (List ℕ)) (more : List Symbol) → Spells names left more → Spells names bytes (sign m ∷ more)

abbrev pub PutsNothing : List ℕ → List ℕ → Type 0
PutsNothing bytes left =
    (names : List (List ℕ)) (more : List Symbol) → Spells names left more → Spells names bytes more

abbrev pub SpellsMark : List ℕ → List ℕ → Mark → Type 0
SpellsMark bytes left m = PutsMark bytes left m × (length left < length bytes)

abbrev pub SpellsNothing : List ℕ → List ℕ → Type 0
SpellsNothing bytes left = PutsNothing bytes left × (length left ≤ length bytes)

abbrev pub IsNext : List (List ℕ) → List (List ℕ) → List ℕ → List ℕ → Symbol → Type 0
IsNext old new bytes left s = SpellsOne new bytes left s × Extends old new × (length left < length bytes)
