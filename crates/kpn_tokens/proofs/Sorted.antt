-- What a text says has the sort that is asked for.
use Rattle.std.proofs.Common.{◌-◌, ◌^◌, ℕ, Bool, true, false, inl, inr, nat_le, nat_lt, List, [], ◌∷◌, Option, Some, None, Result, Ok, Err, refl, arith}
use Rattle.std.proofs.Math.Nat.{mod-lt}
use Rattle.std.proofs.lemmas.Bool.{cases_Bool, ltb-true}
use Rattle.std.specs.Str.{is_utf8, trim}
use Rattle.std.specs.Str.Parse.{starts_with_minus, without_leading_sign}
use Rattle.csv.specs.Records.{field_at}
use Rattle.kpn_model.specs.declared.token.Sort.{Sort}
use Rattle.kpn_model.specs.declared.token.Sort.TheVariants.{Words, Flags}
use Rattle.kpn_model.specs.declared.token.Token.TheVariants.{Word, Flag}
use Rattle.kpn_tokens.specs.declared.layouts.Column.{Column}
use Rattle.kpn_tokens.specs.declared.layouts.Decimals.{Decimals}
use Rattle.kpn_tokens.specs.declared.layouts.RecordFault.{RecordFault}
use Rattle.kpn_tokens.specs.Numbers.{as_token, flag_said, number_said, token_said, word_of}
use Rattle.kpn_tokens.specs.Records.{IsSaidOf, cell, cell_said, text_said}
use Rattle.kpn_tokens.specs.Rows.{field_said, filled_said, row_said}

word_sorted : (number : Result ℕ RecordFault) (negative : Bool) → IsSaidOf Words (as_token Word (word_of number negative))
word_sorted (Err fault) negative = tt
word_sorted (Ok n) false = elim (cases_Bool (nat_lt n (2 ^ 64))) [ inl e ↦ rw e (refl, ltb-true n (2 ^ 64) e) | inr e ↦ rw e tt ]
word_sorted (Ok n) true = elim (cases_Bool (nat_le n (2 ^ 63))) [ inl e ↦ rw e (refl, mod-lt (2 ^ 64 - n) (omega arith)) | inr e ↦ rw e tt ]

flag_sorted : (said : Result Bool RecordFault) → IsSaidOf Flags (as_token Flag said)
flag_sorted (Err fault) = tt
flag_sorted (Ok flag) = (refl, tt)

module _ (decimals : Decimals) where
  token_sorted : (sort : Sort) (text : List ℕ) → IsSaidOf sort (token_said decimals sort text)
  token_sorted Words text = word_sorted (number_said decimals.digits (without_leading_sign text)) (starts_with_minus text)
  token_sorted Flags text = flag_sorted (flag_said text)

  cell_sorted : (sort : Sort) (text : List ℕ) → IsSaidOf sort (cell_said decimals sort text)
  cell_sorted sort [] = tt
  cell_sorted sort (b ∷ bs) = token_sorted sort (b ∷ bs)

  filled_sorted : (sort : Sort) (text : List ℕ) → IsSaidOf sort (filled_said decimals sort text)
  filled_sorted sort [] = tt
  filled_sorted sort (b ∷ bs) = token_sorted sort (b ∷ bs)

  field_sorted : (sort : Sort) (field : Option (List ℕ)) → IsSaidOf sort (field_said decimals sort field)
  field_sorted sort None = tt
  field_sorted sort (Some field) = elim (cases_Bool (is_utf8 field)) [ inl e ↦ rw e (filled_sorted sort (trim field)) | inr e ↦ rw e tt ]

  -- a line
  pub text_sorted : (sort : Sort) (line : List ℕ) → IsSaidOf sort (text_said decimals sort line)
  text_sorted sort line = elim (cases_Bool (is_utf8 line)) [ inl e ↦ rw e (cell_sorted sort (cell line)) | inr e ↦ rw e tt ]

-- a row
pub row_sorted : (column : Column) (sort : Sort) (row : Result (Option (List (List ℕ))) RecordFault) → IsSaidOf sort (row_said column sort row)
row_sorted column sort (Err fault) = tt
row_sorted column sort (Ok None) = tt
row_sorted column sort (Ok (Some row)) = field_sorted column.decimals sort (field_at row column.place)
