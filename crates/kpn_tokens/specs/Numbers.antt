-- Texts of words of 64 bits, or of flags.
use Rattle.std.specs.Prelude.{◌+◌, ◌-◌, ◌*◌, ◌/◌, ◌%◌, ◌^◌, ◌==◌, ◌&&◌, ◌||◌, ◌++◌, ℕ, zero, suc, Bool, true, false, not, if◌then◌else◌, bytes_eq, codes, decimal, drop, length, nat_le, nat_lt, slice_index, List, [], ◌∷◌, Option, Some, Result, Ok, Err, ◌<◌, SomeIff}
use Rattle.std.specs.Char.{digit_value}
use Rattle.std.specs.List.{after_first, before_first, list_all, list_any}
use Rattle.std.specs.Str.Parse.{digits_value, starts_with_minus, without_leading_sign}
use Rattle.kpn_model.specs.declared.token.Sort.{Sort}
use Rattle.kpn_model.specs.declared.token.Sort.TheVariants.{Words, Flags}
use Rattle.kpn_model.specs.declared.token.Token.{Token}
use Rattle.kpn_model.specs.declared.token.Token.TheVariants.{Word, Flag}
use Rattle.kpn_tokens.specs.declared.layouts.Decimals.{Decimals}
use Rattle.kpn_tokens.specs.declared.layouts.RecordFault.{RecordFault}
use Rattle.kpn_tokens.specs.declared.layouts.RecordFault.TheVariants.{NotAWord, NotAFlag, Underscore, TooPrecise, OutOfRange}

-- the number, if it has 64 bits
abbrev pub SomeIfWord : Option ℕ → ℕ → Type 0
SomeIfWord result n = SomeIff result (n < 2 ^ 64) n

abbrev pub is_point : ℕ → Bool
is_point b = b == 46

abbrev pub is_underscore : ℕ → Bool
is_underscore b = b == 95

abbrev pub is_digit : ℕ → ℕ → Bool
is_digit base b = nat_lt (digit_value b) base

-- hexadecimal digits follow 0x or 0X
abbrev pub is_hexadecimal : List ℕ → Bool
is_hexadecimal text = (slice_index text 0 == 48) && ((slice_index text 1 == 120) || (slice_index text 1 == 88))

-- digits, and maybe `_` among them
abbrev pub are_digits : ℕ → List ℕ → Bool
are_digits base text = list_any (is_digit base) text && list_all (λ b. is_digit base b || is_underscore b) text

-- digits in this base, `after` of them after a point, in units of 10 ^ -places
abbrev pub digits_said : ℕ → ℕ → List ℕ → ℕ → Result ℕ RecordFault
digits_said places base digits after =
    if not (are_digits base digits) then Err NotAWord
    else if list_any is_underscore digits then Err Underscore
    else if nat_lt places after then Err TooPrecise
    else Ok (digits_value base digits * 10 ^ (places - after))

-- the text without its point
abbrev pub without_point : List ℕ → List ℕ
without_point text = before_first is_point text ++ after_first is_point text

-- a text without a sign, in units of 10 ^ -places; a hexadecimal number is the word itself
abbrev pub number_said : ℕ → List ℕ → Result ℕ RecordFault
number_said places text =
    if is_hexadecimal text then digits_said 0 16 (drop 2 text) 0
    else digits_said places 10 (without_point text) (length (after_first is_point text))

-- the word for a number, and for one below zero: its two's complement
abbrev pub word_of : Result ℕ RecordFault → Bool → Result ℕ RecordFault
word_of (Err fault) negative = Err fault
word_of (Ok n) false = if nat_lt n (2 ^ 64) then Ok n else Err OutOfRange
word_of (Ok n) true = if nat_le n (2 ^ 63) then Ok ((2 ^ 64 - n) % 2 ^ 64) else Err OutOfRange

abbrev pub word_said : ℕ → List ℕ → Result ℕ RecordFault
word_said places text = word_of (number_said places (without_leading_sign text)) (starts_with_minus text)

-- what a text other than `true` says of a flag
abbrev pub false_said : List ℕ → Result Bool RecordFault
false_said text = if bytes_eq text (codes "false") then Ok false else Err NotAFlag

abbrev pub flag_said : List ℕ → Result Bool RecordFault
flag_said text = if bytes_eq text (codes "true") then Ok true else false_said text

abbrev pub as_token : {X : Type 0} → (X → Token) → Result X RecordFault → Result (Option Token) RecordFault
as_token f (Ok x) = Ok (Some (f x))
as_token f (Err fault) = Err fault

abbrev pub token_said : Decimals → Sort → List ℕ → Result (Option Token) RecordFault
token_said decimals Words text = as_token Word (word_said decimals.digits text)
token_said decimals Flags text = as_token Flag (flag_said text)

-- the last k digits of a number
abbrev pub last_digits : ℕ → ℕ → List ℕ
last_digits zero n = []
last_digits (suc k) n = last_digits k (n / 10) ++ (48 + n % 10) ∷ []

-- n units of 10 ^ -places
abbrev pub units_text : ℕ → ℕ → List ℕ
units_text places n = if places == 0 then decimal n else decimal (n / 10 ^ places) ++ codes "." ++ last_digits places n

-- from 2 ^ 63 on a word is below zero, unless words are unsigned
abbrev pub is_below_zero : Decimals → ℕ → Bool
is_below_zero decimals n = not decimals.is_unsigned && nat_le (2 ^ 63) n

-- a minus sign, and how far the word is below zero
abbrev pub below_zero_text : Decimals → ℕ → List ℕ
below_zero_text decimals n = codes "-" ++ units_text decimals.digits (2 ^ 64 - n)

abbrev pub word_text : Decimals → ℕ → List ℕ
word_text decimals n = if is_below_zero decimals n then below_zero_text decimals n else units_text decimals.digits n

abbrev pub token_text : Decimals → Token → List ℕ
token_text decimals (Word n) = word_text decimals n
token_text decimals (Flag true) = codes "true"
token_text decimals (Flag false) = codes "false"
