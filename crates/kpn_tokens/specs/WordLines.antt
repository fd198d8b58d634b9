-- Lines of only decimal digits.
use Rattle.std.specs.Prelude.{◌≡◌, ◌<◌, ◌≤◌, ℕ, List, length, slice_index, take, Ok, Some}
use Rattle.std.specs.List.{before_first, position_or_len}
use Rattle.std.specs.Str.Parse.{IsNumeral, digits_value}
use Rattle.csv.specs.Reading.{strip_bom}
use Rattle.kpn_model.specs.declared.token.Sort.TheVariants.{Words}
use Rattle.kpn_model.specs.declared.token.Token.TheVariants.{Word}
use Rattle.kpn_tokens.specs.declared.layouts.Decimals.{Decimals}
use Rattle.kpn_tokens.specs.Records.{text_said}
use Rattle.kpn_tokens.specs.Rows.{is_line_feed}

-- the first line has `count` bytes, at most 18, all digits of this number
pub record IsNumberLine (text : List ℕ) (count number : ℕ) : Type 0 where
  pub digits : IsNumeral 10 (take count text)
  pub few : count ≤ 18
  pub value : number ≡ digits_value 10 (take count text)
  pub within : count < length text
  pub ended : slice_index text count ≡ 10

-- the first line has `count` bytes, and this word, if words are whole
pub record IsWordLine (text : List ℕ) (count word : ℕ) : Type 0 where
  pub ends : count ≡ position_or_len is_line_feed text
  pub within : count < length text
  pub says : (decimals : Decimals) → decimals.digits ≡ 0
      → text_said decimals Words (strip_bom (before_first is_line_feed text)) ≡ Ok (Some (Word word))
