-- Cells of a row, one after the other.
use Rattle.std.proofs.Common.{◌≡◌, ◌<◌, ◌+◌, ◌∙◌, ◌++◌, ℕ, zero, suc, List, [], ◌∷◌, add-one, append_assoc, append-nil, get_or, length, take, refl, sym, ap, arith}
use Rattle.std.proofs.lemmas.Bool.{ne_eqb}
use Rattle.std.proofs.lemmas.Grind.{flat_map-append}
use Rattle.std.proofs.lemmas.List.{take_more}
use Rattle.std.specs.List.{flat_map}
use Rattle.kpn_tokens.specs.declared.layouts.Cell.{Cell}
use Rattle.kpn_tokens.specs.declared.layouts.Separator.{Separator}
use Rattle.kpn_tokens.specs.Rows.{cell_text, cells_text, separator_before, separator_byte}

module _ (separator : Separator) where
  abbrev later : Cell → List ℕ
  later cell = separator_byte separator ∷ cell_text cell

  -- one cell more
  pub cells_more : (cells : List Cell) (i : ℕ) (d : Cell) → i < length cells
      → cells_text separator (take (i + 1) cells) ≡ cells_text separator (take i cells) ++ (separator_before separator i ++ cell_text (get_or cells i d))
  cells_more [] i d h = absurd (omega arith)
  cells_more (c ∷ cs) zero d h = append-nil (cell_text c)
  cells_more (c ∷ cs) (suc k) d h =
      let x = get_or cs k d in
      let within : k < length cs = omega arith in
      let one : take (suc k + 1) (c ∷ cs) ≡ c ∷ take (k + 1) cs = rw (add-one (suc k), add-one k) refl in
      let last : flat_map later (take (k + 1) cs) ≡ flat_map later (take k cs) ++ later x =
      rw (take_more cs k d within, flat_map-append later (take k cs) (x ∷ []), append-nil (later x)) refl in
      let mark : separator_before separator (suc k) ≡ separator_byte separator ∷ [] = rw (ne_eqb (suc k) 0 (λ e. absurd (omega arith))) refl in
      rw (one, mark) (ap (λ (t : List ℕ). cell_text c ++ t) last ∙ sym (append_assoc (cell_text c) (flat_map later (take k cs)) (later x)))
