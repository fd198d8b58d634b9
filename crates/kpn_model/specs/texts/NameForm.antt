-- The form of names.
use Rattle.std.specs.Prelude.{ℕ, Bool, ◌&&◌, ◌||◌, ◌==◌, nat_le, List, length, slice_index}
use Rattle.std.specs.List.{list_all}

abbrev pub is_letter : ℕ → Bool
is_letter b = nat_le 97 b && nat_le b 122

abbrev pub is_digit : ℕ → Bool
is_digit b = nat_le 48 b && nat_le b 57

abbrev pub is_name_byte : ℕ → Bool
is_name_byte b = is_letter b || (is_digit b || b == 95)

-- 1 to 16 letters from `a` to `z`, digits and `_`, the first a letter
abbrev pub is_name : List ℕ → Bool
is_name text = nat_le (length text) 16 && (is_letter (slice_index text 0) && list_all is_name_byte text)
