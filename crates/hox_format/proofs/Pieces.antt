-- The pieces of a text, and settings one after the other.
use Rattle.std.proofs.Common.{◌≡◌, ◌<◌, ◌+◌, ◌∙◌, ℕ, Bor, Option, inl, inr, List, [], ◌∷◌, Ok, Err, None, Some, length, refl, ap, arith}
use Rattle.std.proofs.lemmas.Bool.{cases_Bool}
use Rattle.std.proofs.lemmas.List.Splits.{slice_split_first}
use Rattle.std.specs.List.{after_first, before_first, position_or_len}
use Rattle.hox_format.specs.Forms.{Form}
use Rattle.hox_format.specs.Saying.{Refused, Said, no_name, each_once, form_named, format_said, is_comma, pieces, setting_said, settings_said}

-- how much of a text is left
abbrev pub left : Option (Bor (List ℕ)) → ℕ
left None = 0
left (Some text) = 1 + length text.now

-- a text without a comma is its only piece
pub whole_piece : (text : List ℕ) → position_or_len is_comma text ≡ length text → pieces text ≡ text ∷ []
whole_piece [] e = refl
whole_piece (b ∷ bs) e = elim (cases_Bool (is_comma b)) [
  | inl h ↦ absurd (omega (arith, rw h at e))
  | inr h ↦ rw (h, whole_piece bs (omega (arith, rw h at e))) refl
]

-- what stands before a comma is the first piece
pub first_piece : (text : List ℕ) → position_or_len is_comma text < length text → pieces text ≡ before_first is_comma text ∷ pieces (after_first is_comma text)
first_piece text h = slice_split_first is_comma text 0 h

-- no setting counts after one that is refused
pub stays_refused : (fault : Refused) (settings : List (List ℕ)) → settings_said (Err fault) settings ≡ Err fault
stays_refused fault [] = refl
stays_refused fault (setting ∷ later) = stays_refused fault later

-- a setting that is refused
pub refused_at : (said : Said) (f : Form) (settings setting : List ℕ) (later : List (List ℕ)) (fault : Refused) → said ≡ settings_said (Ok f) (pieces settings) → pieces settings ≡ setting ∷ later
    → setting_said f setting ≡ Err fault → said ≡ Err fault
refused_at said f settings setting later fault e cut h = e ∙ rw (cut, h) (stays_refused fault later)

-- a text whose first piece is the name of no format
pub unnamed : (text name : List ℕ) (later : List (List ℕ)) → pieces text ≡ name ∷ later → form_named name ≡ None → format_said text ≡ Err (no_name name)
unnamed text name later cut h = rw (cut, h) (ap (each_once later) (stays_refused (no_name name) later))
