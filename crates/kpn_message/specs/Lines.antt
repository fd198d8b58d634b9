-- The lines of an array's tables in a text: those of their headers, which begin their lines.
use Rattle.std.specs.Prelude.{◌≡◌, ◌==◌, ◌<◌, ◌+◌, ℕ, zero, suc, Bool, true, not, ◌||◌, ◌&&◌, nat_eq, List, [], ◌∷◌, length, drop, slice_index, if◌then◌else◌}
use Rattle.std.specs.List.{starts_with}

abbrev pub count_below : (ℕ → Bool) → ℕ → ℕ
count_below test zero = 0
count_below test (suc n) = count_below test n + (if test n then 1 else 0)

abbrev pub is_blank : ℕ → Bool
is_blank byte = byte == 32 || byte == 9

-- only blanks precede place i in its line
abbrev pub begins_line : List ℕ → ℕ → Bool
begins_line text zero = true
begins_line text (suc i) = slice_index text i == 10 || (is_blank (slice_index text i) && begins_line text i)

-- counted from 1
abbrev pub line_of : List ℕ → ℕ → ℕ
line_of text i = 1 + count_below (λ j. slice_index text j == 10) i

abbrev pub stands_at : List ℕ → List ℕ → ℕ → Bool
stands_at text word i = starts_with nat_eq (drop i text) word

abbrev pub is_header : List ℕ → List ℕ → ℕ → Bool
is_header text header i = begins_line text i && stands_at text header i

abbrev pub has_word : List ℕ → List ℕ → Bool
has_word text word = not (count_below (stands_at text word) (length text) == 0)

-- a byte three times
abbrev pub thrice : ℕ → List ℕ
thrice byte = byte ∷ byte ∷ byte ∷ []

-- the text has as many headers as tables
abbrev pub has_headers : List ℕ → List ℕ → ℕ → Bool
has_headers text header tables = count_below (is_header text header) (length text) == tables

-- the text has as many headers as tables, and no string of several lines, which might contain a header
abbrev pub tells_lines : List ℕ → List ℕ → ℕ → Bool
tells_lines text header tables =
    not (has_word text (thrice 34)) && (not (has_word text (thrice 39)) && has_headers text header tables)

-- line l has the header of table k: k headers precede it
pub record IsLineOf (text header : List ℕ) (k l : ℕ) : Type 0 where
  pub place : ℕ
  pub within : place < length text
  pub header_is : is_header text header place ≡ true
  pub earlier : count_below (is_header text header) place ≡ k
  pub line : l ≡ line_of text place
