-- A row of cells in a line, each of which has a token, is read back.
use Rattle.std.proofs.Common.{◌≡◌, ◌<◌, ◌∙◌, ◌++◌, ℕ, zero, suc, true, false, List, [], ◌∷◌, Ok, Some, length, map, get_or, refl, ap, append_assoc, arith}
use Rattle.std.proofs.lemmas.Bool.{and_parts, ne_eqb}
use Rattle.std.proofs.lemmas.List.Folds.{list_any-append}
use Rattle.std.specs.List.{AllByRecursion, flat_map, list_any}
use Rattle.std.specs.Prelude.{◌==◌}
use Rattle.csv.specs.Machine.{next_record}
use Rattle.csv.specs.Reading.{strip_bom}
use Rattle.csv.specs.Records.{field_at}
use Rattle.csv.specs.declared.parser.State.TheVariants as st
use Rattle.kpn_tokens.specs.declared.layouts.Cell.{Cell}
use Rattle.kpn_tokens.specs.declared.layouts.Separator.{Separator}
use Rattle.kpn_tokens.specs.declared.layouts.Separator.TheVariants.{Comma, Semicolon, Tab}
use Rattle.kpn_tokens.specs.Rows.{cell_text, cells_text, config_of, is_line_feed, is_open, row_in, rows_of, separator_byte}
use Rattle.kpn_tokens.proofs.Lines.{no_mark}
use Rattle.kpn_tokens.proofs.Plain.{are_plain, is_plain, none_passes, plain_small}
use Rattle.kpn_tokens.proofs.RowFacts.{one_row_of}
use Rattle.kpn_tokens.proofs.RowsBack.{begins, begins_row, ends, joins, separator_no_line_feed}

-- a cell whose text is plain, and not empty
pub record IsPlainCell (cell : Cell) : Type 0 where
  pub plain : are_plain (cell_text cell) ≡ true
  pub some : 0 < length (cell_text cell)

-- a separator ends a field
shuts : (separator : Separator) (fields : List (List ℕ)) (field tail : List ℕ)
    → next_record (config_of separator) st.InField fields field (separator_byte separator ∷ tail) ≡ next_record (config_of separator) st.StartField (fields ++ field ∷ []) [] tail
unfolding next_record
shuts Comma fields field tail = refl
shuts Semicolon fields field tail = refl
shuts Tab fields field tail = refl

module _ (separator : Separator) where
  abbrev later : Cell → List ℕ
  later cell = separator_byte separator ∷ cell_text cell

  -- a field begins, and goes on
  opens : (fields : List (List ℕ)) (text tail : List ℕ) → are_plain text ≡ true → 0 < length text
      → next_record (config_of separator) st.StartField fields [] (text ++ tail) ≡ next_record (config_of separator) st.InField fields text tail
  opens fields [] tail h some = absurd (omega arith)
  opens fields (b ∷ bs) tail h some =
      let (plain, more) = and_parts (is_plain b) (are_plain bs) h in
      begins separator fields b (bs ++ tail) plain ∙ joins separator fields (b ∷ []) bs tail more

  opens_row : (text tail : List ℕ) → are_plain text ≡ true → 0 < length text
      → next_record (config_of separator) st.StartRecord [] [] (text ++ tail) ≡ next_record (config_of separator) st.InField [] text tail
  opens_row [] tail h some = absurd (omega arith)
  opens_row (b ∷ bs) tail h some = begins_row separator b (bs ++ tail) (and_parts (is_plain b) (are_plain bs) h).0 ∙ opens [] (b ∷ bs) tail h some

  -- the later cells of a row
  read_later : (cells : List Cell) (fields : List (List ℕ)) (field : List ℕ) → AllByRecursion IsPlainCell cells
      → next_record (config_of separator) st.InField fields field (flat_map later cells ++ 10 ∷ []) ≡ Some (fields ++ field ∷ map cell_text cells, st.StartRecord, [])
  read_later [] fields field h = ends separator fields field
  read_later (c ∷ cs) fields field h =
      let tail = flat_map later cs ++ 10 ∷ [] in
      ap (λ (l : List ℕ). next_record (config_of separator) st.InField fields field (separator_byte separator ∷ l)) (append_assoc (cell_text c) (flat_map later cs) (10 ∷ []))
      ∙ shuts separator fields field (cell_text c ++ tail) ∙ opens (fields ++ field ∷ []) (cell_text c) tail h.0.plain h.0.some ∙ read_later cs (fields ++ field ∷ []) (cell_text c) h.1
      ∙ ap (λ (fs : List (List ℕ)). Some (fs, st.StartRecord, [])) (append_assoc fields (field ∷ []) (cell_text c ∷ map cell_text cs))

  read_cells : (c : Cell) (cs : List Cell) → AllByRecursion IsPlainCell (c ∷ cs)
      → next_record (config_of separator) st.StartRecord [] [] (cells_text separator (c ∷ cs) ++ 10 ∷ []) ≡ Some (map cell_text (c ∷ cs), st.StartRecord, [])
  read_cells c cs h =
      ap (λ (l : List ℕ). next_record (config_of separator) st.StartRecord [] [] l) (append_assoc (cell_text c) (flat_map later cs) (10 ∷ []))
      ∙ opens_row (cell_text c) (flat_map later cs ++ 10 ∷ []) h.0.plain h.0.some ∙ read_later cs [] (cell_text c) h.1

  unmarked : (text tail : List ℕ) → are_plain text ≡ true → 0 < length text → strip_bom (text ++ tail) ≡ text ++ tail
  unmarked [] tail h some = absurd (omega arith)
  unmarked (b ∷ bs) tail h some =
      let small = plain_small b (and_parts (is_plain b) (are_plain bs) h).0 in
      let other : (b == 0xEF) ≡ false = ne_eqb b 0xEF (λ e. absurd (omega arith)) in
      no_mark ((b ∷ bs) ++ tail) (rw other refl)

  shut : (cells : List Cell) → AllByRecursion IsPlainCell cells → is_open (map cell_text cells) ≡ false
  shut [] h = refl
  shut (c ∷ cs) h = rw (none_passes is_line_feed refl (cell_text c) h.0.plain) (shut cs h.1)

  pub one_line : (cells : List Cell) → AllByRecursion IsPlainCell cells → list_any is_line_feed (flat_map later cells) ≡ false
  one_line [] h = refl
  one_line (c ∷ cs) h = rw (separator_no_line_feed separator) (rw (list_any-append is_line_feed (cell_text c) (flat_map later cs), none_passes is_line_feed refl (cell_text c) h.0.plain) (one_line cs h.1))

  pub found : (cells : List Cell) (place : ℕ) (d : Cell) → place < length cells → field_at (map cell_text cells) place ≡ Some (cell_text (get_or cells place d))
  unfolding field_at
  found [] place d h = absurd (omega arith)
  found (c ∷ cs) zero d h = refl
  found (c ∷ cs) (suc k) d h = found cs k d (omega arith)

  -- the row of a line of cells
  pub row_is : (c : Cell) (cs : List Cell) → AllByRecursion IsPlainCell (c ∷ cs) → row_in separator (cells_text separator (c ∷ cs)) ≡ Ok (Some (map cell_text (c ∷ cs)))
  row_is c cs h =
      let line = cells_text separator (c ∷ cs) in
      let unmarked_line : strip_bom (line ++ 10 ∷ []) ≡ line ++ 10 ∷ [] = rw (append_assoc (cell_text c) (flat_map later cs) (10 ∷ [])) (unmarked (cell_text c) (flat_map later cs ++ 10 ∷ []) h.0.plain h.0.some) in
      let all : rows_of separator line ≡ map cell_text (c ∷ cs) ∷ [] = rw unmarked_line (one_row_of (config_of separator) (line ++ 10 ∷ []) (map cell_text (c ∷ cs)) (read_cells c cs h)) in
      rw (all, shut (c ∷ cs) h) refl

  -- and it has one line
  pub one_line_of : (c : Cell) (cs : List Cell) → AllByRecursion IsPlainCell (c ∷ cs) → list_any is_line_feed (cells_text separator (c ∷ cs)) ≡ false
  one_line_of c cs h = rw (list_any-append is_line_feed (cell_text c) (flat_map later cs), none_passes is_line_feed refl (cell_text c) h.0.plain) (one_line cs h.1)
