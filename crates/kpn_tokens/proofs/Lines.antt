-- What lines say.
use Rattle.std.proofs.Common.{◌≡◌, ℕ, true, false, inl, inr, List, [], ◌∷◌, None, Ok, Err, drop, length, refl, slice_index, arith}
use Rattle.std.proofs.lemmas.Bool.{cases_Bool}
use Rattle.std.proofs.lemmas.Str.{IsUtf8-from_is_utf8, is_utf8-from_IsUtf8}
use Rattle.std.specs.Prelude.{IsUtf8, ◌==◌, ◌&&◌}
use Rattle.std.specs.Str.{is_utf8}
use Rattle.csv.specs.Reading.{is_bom, strip_bom}
use Rattle.kpn_model.specs.declared.token.Sort.{Sort}
use Rattle.kpn_tokens.specs.declared.layouts.Decimals.{Decimals}
use Rattle.kpn_tokens.specs.declared.layouts.RecordFault.TheVariants.{NoText}
use Rattle.kpn_tokens.specs.Numbers.{token_said}
use Rattle.kpn_tokens.specs.Records.{cell, cell_said, text_said}

-- a text without a byte order mark before it
pub mark_is : (text : List ℕ) → is_bom (slice_index text 0) (slice_index text 1) (slice_index text 2) ≡ true → strip_bom text ≡ drop 3 text
unfolding strip_bom
mark_is [] e = cc
mark_is (a ∷ []) e = elim (cases_Bool (a == 0xEF)) [ inl h ↦ cc (rw h at e) | inr h ↦ cc (rw h at e) ]
mark_is (a ∷ b ∷ []) e = elim (cases_Bool ((a == 0xEF) && (b == 0xBB))) [ inl h ↦ cc (rw h at e) | inr h ↦ cc (rw h at e) ]
mark_is (a ∷ b ∷ c ∷ rest) e = rw e refl

pub no_mark : (text : List ℕ) → is_bom (slice_index text 0) (slice_index text 1) (slice_index text 2) ≡ false → strip_bom text ≡ text
unfolding strip_bom
no_mark [] e = refl
no_mark (a ∷ []) e = refl
no_mark (a ∷ b ∷ []) e = refl
no_mark (a ∷ b ∷ c ∷ rest) e = rw e refl

-- bytes that are no text
pub no_text : (bytes : List ℕ) → (IsUtf8 bytes → ⊥) → is_utf8 bytes ≡ false
no_text bytes h = elim (cases_Bool (is_utf8 bytes)) [ inl e ↦ absurd (h (IsUtf8-from_is_utf8 bytes e)) | inr e ↦ e ]

module _ (decimals : Decimals) (sort : Sort) where
  pub line_of_no_text : (line : List ℕ) → (IsUtf8 line → ⊥) → text_said decimals sort line ≡ Err NoText
  line_of_no_text line h = rw (no_text line h) refl

  pub line_of_text : (line : List ℕ) → IsUtf8 line → text_said decimals sort line ≡ cell_said decimals sort (cell line)
  line_of_text line h = rw (is_utf8-from_IsUtf8 line h) refl

  pub empty_cell : (text : List ℕ) → length text ≡ 0 → cell_said decimals sort text ≡ Ok None
  empty_cell [] e = refl
  empty_cell (b ∷ bs) e = absurd (omega arith)

  pub filled_cell : (text : List ℕ) → (length text ≡ 0 → ⊥) → cell_said decimals sort text ≡ token_said decimals sort text
  filled_cell [] e = absurd (e refl)
  filled_cell (b ∷ bs) e = refl
