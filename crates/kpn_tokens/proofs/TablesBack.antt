-- What is written of columns is read back in each of them.
use Rattle.std.proofs.Common.{◌≡◌, ◌<◌, ◌≤◌, ◌+◌, ◌-◌, ◌*◌, ◌∙◌, ◌++◌, ℕ, zero, suc, true, false, List, [], ◌∷◌, Ok, Some, None, drop, length, length-append, map, get_or, refl, sym, ap, subst, append_assoc, arith}
use Rattle.std.proofs.Math.Seq.{take-append_seam}
use Rattle.std.proofs.lemmas.Bool.{le-ltb}
use Rattle.std.proofs.lemmas.List.{length-map}
use Rattle.std.specs.List.{AllByRecursion, flat_map}
use Rattle.std.specs.Prelude.{nat_lt}
use Rattle.kpn_model.specs.declared.token.Sort.{Sort}
use Rattle.kpn_model.specs.declared.token.Token.{Token}
use Rattle.kpn_tokens.specs.declared.layouts.Cell.{Cell}
use Rattle.kpn_tokens.specs.declared.layouts.Column.{Column}
use Rattle.kpn_tokens.specs.declared.layouts.Decimals.{Decimals}
use Rattle.kpn_tokens.specs.declared.layouts.Frame.{Frame}
use Rattle.kpn_tokens.specs.declared.layouts.Layout.{Layout}
use Rattle.kpn_tokens.specs.declared.layouts.Layout.TheVariants.{Fields, Frames}
use Rattle.kpn_tokens.specs.declared.layouts.Sample.{Sample}
use Rattle.kpn_tokens.specs.declared.layouts.Separator.{Separator}
use Rattle.kpn_tokens.specs.declared.layouts.Width.{Width}
use Rattle.kpn_tokens.specs.declared.layouts.Width.TheVariants.{One, Two, Three, Four, Eight}
use Rattle.kpn_tokens.specs.declared.tables.Table.{Table}
use Rattle.kpn_tokens.specs.declared.tables.Table.TheVariants.{Rows, Samples}
use Rattle.kpn_tokens.specs.Numbers.{token_text}
use Rattle.kpn_tokens.specs.Records.{AllFit, IsOf, Say, first, fits, next, nothing, record_said, rest}
use Rattle.kpn_tokens.specs.Rows.{cell_text, cells_text, is_line_feed}
use Rattle.kpn_tokens.specs.Samples.{bytes_in, channel_text, channel_word, frame_size, nearest, number_for}
use Rattle.kpn_tokens.specs.Tables.{ColumnView, IsFilled, below, column_layout, first_cell, first_of, longest, no_column, row_text, rows_text}
use Rattle.kpn_tokens.proofs.Fields.{filled_field}
use Rattle.kpn_tokens.proofs.LinesBack.{IsPlainCell, found, one_line_of, row_is}
use Rattle.kpn_tokens.proofs.Plain.{after_after, before_after, plain_trim, plain_utf8}
use Rattle.kpn_tokens.proofs.RecordsBack.{plain_text}
use Rattle.kpn_tokens.proofs.SamplesBack.{bytes_length, drop_first, sample_back, some_bytes}

-- a cell with a token of some sort
pub record IsFull (cell : Cell) : Type 0 where
  pub token : Token
  pub is : cell.token ≡ Some token
  pub sort : Sort
  pub of : IsOf sort token

-- whatever comes after it, the row is the first record, and says this token in a layout
pub record IsRowBack (table : Table) (cells : List Cell) (layout : Layout) (sort : Sort) (token : Token) : Type 0 where
  pub some : 0 < length (row_text table cells)
  pub says : (more : List ℕ) → record_said layout sort (first layout (row_text table cells ++ more)) ≡ Ok (Some token)
  pub leaves : (more : List ℕ) → rest layout (row_text table cells ++ more) ≡ more

-- ---- a line

plain_cell : (cell : Cell) → IsFull cell → IsPlainCell cell
plain_cell cell full =
    let is = plain_text cell.decimals full.sort full.token full.of in
    let text : cell_text cell ≡ token_text cell.decimals full.token = rw full.is refl in
    record { plain = rw text is.plain; some = rw text is.some }

plain_cells : (cells : List Cell) → AllByRecursion IsFull cells → AllByRecursion IsPlainCell cells
plain_cells [] h = tt
plain_cells (c ∷ cs) h = (plain_cell c h.0, plain_cells cs h.1)

module _ (separator : Separator) (place : ℕ) (decimals : Decimals) (sort : Sort) (token : Token) (of : IsOf sort token) where
  abbrev column : Column
  column = record { place = place; separator = separator; decimals = decimals }

  line_said : (c : Cell) (cs : List Cell) (d : Cell) → AllByRecursion IsPlainCell (c ∷ cs) → place < length (c ∷ cs) → get_or (c ∷ cs) place d ≡ record { decimals = decimals; token = Some token }
      → record_said (Fields column) sort (cells_text separator (c ∷ cs)) ≡ Ok (Some token)
  line_said c cs d h within here =
      let text = token_text decimals token in
      let is = plain_text decimals sort token of in
      let some : length text ≡ 0 → ⊥ = λ e. absurd (omega (arith, is.some)) in
      rw (row_is separator c cs h, found separator (c ∷ cs) place d within, here, plain_utf8 text is.plain, plain_trim text is.plain) (filled_field decimals sort text some ∙ is.said)

  line_back : (cells : List Cell) (d : Cell) → AllByRecursion IsFull cells → place < length cells → get_or cells place d ≡ record { decimals = decimals; token = Some token }
      → IsRowBack (Rows separator) cells (Fields column) sort token
  line_back [] d full within here = absurd (omega arith)
  line_back (c ∷ cs) d full within here =
      let line = cells_text separator (c ∷ cs) in
      let h = plain_cells (c ∷ cs) full in
      let joined = λ (more : List ℕ). append_assoc line (10 ∷ []) more in
      let none = one_line_of separator c cs h in
      record {
        some = omega (arith, length-append line (10 ∷ []));
        says = λ more. rw (joined more, before_after is_line_feed line 10 more none refl) (line_said c cs d h within here);
        leaves = λ more. rw (joined more) (after_after is_line_feed line 10 more none refl);
      }

-- ---- a frame

frame_is : (width : Width) (count place : ℕ) → place < count → place * bytes_in width + bytes_in width + (count - 1 - place) * bytes_in width ≡ count * bytes_in width
frame_is One count place h = omega arith
frame_is Two count place h = omega arith
frame_is Three count place h = omega arith
frame_is Four count place h = omega arith
frame_is Eight count place h = omega arith

one_more : (width : Width) (place : ℕ) → suc place * bytes_in width ≡ bytes_in width + place * bytes_in width
one_more One place = omega arith
one_more Two place = omega arith
one_more Three place = omega arith
one_more Four place = omega arith
one_more Eight place = omega arith

drop_past : (xs ys : List ℕ) (n : ℕ) → drop (length xs + n) (xs ++ ys) ≡ drop n ys
drop_past [] ys n = let none : 0 + n ≡ n = omega arith in rw none refl
drop_past (x ∷ xs) ys n = let one : suc (length xs) + n ≡ suc (length xs + n) = omega arith in rw one (drop_past xs ys n)

module _ (sample : Sample) where
  abbrev one : Cell → List ℕ
  one cell = channel_text sample cell.token

  one_length : (cell : Cell) → length (one cell) ≡ bytes_in sample.width
  one_length cell = bytes_length sample.endian sample.width (number_for sample.coding sample.width (nearest sample.coding sample.width (channel_word cell.token)))

  all_length : (cells : List Cell) → length (flat_map one cells) ≡ length cells * bytes_in sample.width
  all_length [] = let none : 0 * bytes_in sample.width ≡ 0 = omega arith in sym none
  all_length (c ∷ cs) = length-append (one c) (flat_map one cs) ∙ ap (λ n. n + length (flat_map one cs)) (one_length c) ∙ ap (λ n. bytes_in sample.width + n) (all_length cs) ∙ sym (one_more sample.width (length cs))

  sample_at : (cells : List Cell) (place : ℕ) (d : Cell) → place < length cells → (tail : List ℕ) × (drop (place * bytes_in sample.width) (flat_map one cells) ≡ one (get_or cells place d) ++ tail)
  sample_at [] place d h = absurd (omega arith)
  sample_at (c ∷ cs) zero d h = let none : 0 * bytes_in sample.width ≡ 0 = omega arith in (flat_map one cs, rw none refl)
  sample_at (c ∷ cs) (suc k) d h =
      let more = sample_at cs k d (omega arith) in
      let sum : suc k * bytes_in sample.width ≡ length (one c) + k * bytes_in sample.width = one_more sample.width k ∙ ap (λ n. n + k * bytes_in sample.width) (sym (one_length c)) in
      (more.0, ap (λ n. drop n (one c ++ flat_map one cs)) sum ∙ drop_past (one c) (flat_map one cs) (k * bytes_in sample.width) ∙ more.1)

  module _ (place : ℕ) (decimals : Decimals) (sort : Sort) (token : Token) (of : IsOf sort token) (cells : List Cell) where
    abbrev frame : Frame
    frame = record { before = place * bytes_in sample.width; sample = sample; after = (length cells - 1 - place) * bytes_in sample.width }

    whole : place < length cells → length (flat_map one cells) ≡ frame_size frame
    whole within = all_length cells ∙ sym (frame_is sample.width (length cells) place within)

    frame_said_back : (d : Cell) → fits (Frames frame) token ≡ true → place < length cells → get_or cells place d ≡ record { decimals = decimals; token = Some token } → record_said (Frames frame) sort (flat_map one cells) ≡ Ok (Some token)
    frame_said_back d fit within here =
        let at = sample_at cells place d within in
        let uncut : nat_lt (length (flat_map one cells)) (frame_size frame) ≡ false = le-ltb (length (flat_map one cells)) (frame_size frame) (omega (arith, whole within)) in
        rw (uncut, at.1, here) (sample_back frame sort token of fit at.0)

    frame_back : (d : Cell) → fits (Frames frame) token ≡ true → place < length cells → get_or cells place d ≡ record { decimals = decimals; token = Some token } → IsRowBack (Samples sample) cells (Frames frame) sort token
    frame_back d fit within here = record {
      some = omega (arith, whole within, some_bytes sample.width);
      says = λ more. rw (rw (whole within) at (take-append_seam (flat_map one cells) more)) (frame_said_back d fit within here);
      leaves = λ more. rw (whole within) at (drop_first (flat_map one cells) more);
    }

row_back : (table : Table) (cells : List Cell) (place : ℕ) (d : Cell) (decimals : Decimals) (sort : Sort) (token : Token) → AllByRecursion IsFull cells → place < length cells
    → get_or cells place d ≡ record { decimals = decimals; token = Some token } → IsOf sort token → fits (column_layout table (length cells) place decimals) token ≡ true
    → IsRowBack table cells (column_layout table (length cells) place decimals) sort token
row_back (Rows separator) cells place d decimals sort token full within here of fit = line_back separator place decimals sort token of cells d full within here
row_back (Samples sample) cells place d decimals sort token full within here of fit = frame_back sample place decimals sort token of cells d fit within here

-- ---- the rows of columns

all_at : {X : Type 0} (P : X → Type 0) (xs : List X) (place : ℕ) (d : X) → AllByRecursion P xs → place < length xs → P (get_or xs place d)
all_at P [] place d h within = absurd (omega arith)
all_at P (x ∷ xs) zero d h within = h.0
all_at P (x ∷ xs) (suc k) d h within = all_at P xs k d h.1 (omega arith)

map_at : {X Y : Type 0} (f : X → Y) (xs : List X) (place : ℕ) (d : X) (e : Y) → place < length xs → get_or (map f xs) place e ≡ f (get_or xs place d)
map_at f [] place d e within = absurd (omega arith)
map_at f (x ∷ xs) zero d e within = refl
map_at f (x ∷ xs) (suc k) d e within = map_at f xs k d e (omega arith)

module _ (table : Table) (n : ℕ) where
  filled_below : (column : ColumnView) → IsFilled table (suc n) column → IsFilled table n (below column)
  filled_below column h = by column.tokens h.fit h.filled
    where
      by : (tokens : List Token) → AllFit (column_layout table 1 0 column.decimals) h.sort tokens → length tokens ≡ suc n → IsFilled table n (record { decimals = column.decimals; tokens = drop 1 tokens })
      by [] fit e = absurd (omega arith)
      by (t ∷ ts) fit e = record { sort = h.sort; fit = fit.2; filled = omega arith }

  all_below : (columns : List ColumnView) → AllByRecursion (IsFilled table (suc n)) columns → AllByRecursion (IsFilled table n) (map below columns)
  all_below [] h = tt
  all_below (c ∷ cs) h = (filled_below c h.0, all_below cs h.1)

  full_first : (column : ColumnView) → IsFilled table (suc n) column → IsFull (first_cell column)
  full_first column h = by column.tokens h.fit h.filled
    where
      by : (tokens : List Token) → AllFit (column_layout table 1 0 column.decimals) h.sort tokens → length tokens ≡ suc n → IsFull (record { decimals = column.decimals; token = first_of tokens })
      by [] fit e = absurd (omega arith)
      by (t ∷ ts) fit e = record { token = t; is = refl; sort = h.sort; of = fit.0 }

  all_full : (columns : List ColumnView) → AllByRecursion (IsFilled table (suc n)) columns → AllByRecursion IsFull (map first_cell columns)
  all_full [] h = tt
  all_full (c ∷ cs) h = (full_first c h.0, all_full cs h.1)

  longest_most : (columns : List ColumnView) → AllByRecursion (IsFilled table n) columns → longest columns ≤ n
  longest_most [] h = omega arith
  longest_most (c ∷ cs) h = let more = longest_most cs h.1 in let one = h.0.filled in omega arith

  pub longest_is : (columns : List ColumnView) → AllByRecursion (IsFilled table n) columns → 0 < length columns → longest columns ≡ n
  longest_is [] h some = absurd (omega arith)
  longest_is (c ∷ cs) h some = let more = longest_most cs h.1 in let one = h.0.filled in omega arith

no_cell : Cell
no_cell = record { decimals = record { digits = 0; is_unsigned = false }; token = None }

module _ (table : Table) (place : ℕ) (sort : Sort) (decimals : Decimals) (count : ℕ) where
  abbrev layout : Layout
  layout = column_layout table count place decimals

  pub say_rows : (n : ℕ) (columns : List ColumnView) (tokens : List Token) → AllByRecursion (IsFilled table n) columns → place < length columns → length columns ≡ count
      → get_or columns place no_column ≡ record { decimals = decimals; tokens = tokens } → AllFit layout sort tokens → Say layout sort (rows_text table n columns) tokens
  say_rows zero columns [] h within e here fit = nothing refl
  say_rows zero columns (t ∷ ts) h within e here fit =
      let filled = (all_at (IsFilled table zero) columns place no_column h within).filled in
      absurd (omega (arith, rw here at filled))
  say_rows (suc n) columns [] h within e here fit =
      let filled = (all_at (IsFilled table (suc n)) columns place no_column h within).filled in
      absurd (omega (arith, rw here at filled))
  say_rows (suc n) columns (t ∷ ts) h within e here fit =
      let cells = map first_cell columns in
      let many : length cells ≡ count = length-map columns first_cell ∙ e in
      let inside : place < length cells = omega (arith, many) in
      let cell : get_or cells place no_cell ≡ record { decimals = decimals; token = Some t } = map_at first_cell columns place no_column no_cell within ∙ ap first_cell here in
      let back : IsRowBack table cells layout sort t = subst (λ m. IsRowBack table cells (column_layout table m place decimals) sort t) many
      (row_back table cells place no_cell decimals sort t (all_full table n columns h) inside cell fit.0 (subst (λ m. fits (column_layout table m place decimals) t ≡ true) (sym many) fit.1)) in
      let left = map below columns in
      let as_many : length left ≡ count = length-map columns below ∙ e in
      let column : get_or left place no_column ≡ record { decimals = decimals; tokens = ts } = map_at below columns place no_column no_column within ∙ ap below here in
      let more = rows_text table n left in
      let some : 0 < length (row_text table cells ++ more) = omega (arith, back.some, length-append (row_text table cells) more) in
      next (Some t) some (back.says more) (subst (λ l. Say layout sort l ts) (sym (back.leaves more)) (say_rows n left ts (all_below table n columns h) (omega (arith, as_many)) as_many column fit.2))
