-- What fields say.
use Rattle.std.proofs.Common.{◌≡◌, ◌<◌, ℕ, zero, suc, Bool, true, false, inl, inr, List, [], ◌∷◌, Some, None, Err, take, length, refl, arith}
use Rattle.std.proofs.lemmas.Bool.{cases_Bool, le-ltb, lt-ltb}
use Rattle.std.proofs.lemmas.Str.{is_utf8-from_IsUtf8}
use Rattle.std.specs.List.{list_any, position, position_or_len}
use Rattle.std.specs.Option.{option_map_or}
use Rattle.std.specs.Prelude.{IsUtf8}
use Rattle.std.specs.Str.{trim}
use Rattle.csv.specs.Records.{field_at}
use Rattle.kpn_model.specs.declared.token.Sort.{Sort}
use Rattle.kpn_tokens.specs.declared.layouts.Decimals.{Decimals}
use Rattle.kpn_tokens.specs.declared.layouts.RecordFault.TheVariants.{NoText, EmptyField}
use Rattle.kpn_tokens.specs.Numbers.{token_said}
use Rattle.kpn_tokens.specs.Rows.{field_said, filled_said}
use Rattle.kpn_tokens.proofs.Lines.{no_text}

module _ (test : List ℕ → Bool) where
  -- a field that passes is one of all
  pub any_at : (fields : List (List ℕ)) (place : ℕ) → option_map_or test (field_at fields place) false ≡ true → list_any test fields ≡ true
  unfolding field_at
  any_at [] place e = cc
  any_at (f ∷ fs) zero e = rw e refl
  any_at (f ∷ fs) (suc k) e = elim (cases_Bool (test f)) [ inl h ↦ rw h refl | inr h ↦ rw h (any_at fs k e) ]

  -- the fields before one that does not pass, and it
  pub none_more : (fields : List (List ℕ)) (place : ℕ) → list_any test (take place fields) ≡ false → option_map_or test (field_at fields place) false ≡ false → list_any test (take (suc place) fields) ≡ false
  unfolding field_at
  none_more [] place h e = refl
  none_more (f ∷ fs) zero h e = rw e refl
  none_more (f ∷ fs) (suc k) h e = elim (cases_Bool (test f)) [ inl p ↦ cc (rw p at h) | inr p ↦ rw p (none_more fs k (rw p at h) e) ]

module _ (decimals : Decimals) (sort : Sort) where
  pub field_of_no_text : (field : List ℕ) → (IsUtf8 field → ⊥) → field_said decimals sort (Some field) ≡ Err NoText
  field_of_no_text field h = rw (no_text field h) refl

  pub field_of_text : (field : List ℕ) → IsUtf8 field → field_said decimals sort (Some field) ≡ filled_said decimals sort (trim field)
  field_of_text field h = rw (is_utf8-from_IsUtf8 field h) refl

  pub empty_field : (text : List ℕ) → length text ≡ 0 → filled_said decimals sort text ≡ Err EmptyField
  empty_field [] e = refl
  empty_field (b ∷ bs) e = absurd (omega arith)

  pub filled_field : (text : List ℕ) → (length text ≡ 0 → ⊥) → filled_said decimals sort text ≡ token_said decimals sort text
  filled_field [] e = absurd (e refl)
  filled_field (b ∷ bs) e = refl

module _ (test : List ℕ → Bool) where
  -- the first field that passes
  first_at : (fields : List (List ℕ)) (place : ℕ) → list_any test (take place fields) ≡ false → option_map_or test (field_at fields place) false ≡ true → (position_or_len test fields ≡ place) × (place < length fields)
  unfolding field_at
  first_at [] place h e = cc
  first_at (f ∷ fs) zero h e = (rw e refl, omega arith)
  first_at (f ∷ fs) (suc k) h e = elim (cases_Bool (test f)) [
    | inl p ↦ cc (rw p at h)
    | inr p ↦ let more = first_at fs k (rw p at h) e in (rw (p, more.0) (omega arith), omega (arith, more.1))
  ]

  pub found_at : (fields : List (List ℕ)) (place : ℕ) → list_any test (take place fields) ≡ false → option_map_or test (field_at fields place) false ≡ true → position test fields ≡ Some place
  found_at fields place h e = let first = first_at fields place h e in rw (first.0, lt-ltb place (length fields) first.1) refl

  all_pass : (fields : List (List ℕ)) → list_any test fields ≡ false → position_or_len test fields ≡ length fields
  all_pass [] h = refl
  all_pass (f ∷ fs) h = elim (cases_Bool (test f)) [
    | inl p ↦ cc (rw p at h)
    | inr p ↦ rw (p, all_pass fs (rw p at h)) (omega arith)
  ]

  pub none_found : (fields : List (List ℕ)) → list_any test fields ≡ false → position test fields ≡ None
  none_found fields h = rw (all_pass fields h, le-ltb (length fields) (length fields) (omega arith)) refl
