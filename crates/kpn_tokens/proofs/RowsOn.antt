-- The rows of columns, one after another.
use Rattle.std.proofs.Common.{◌≡◌, ◌<◌, ◌+◌, ◌++◌, ◌∙◌, ℕ, zero, suc, List, [], ◌∷◌, Option, add-one, append_assoc, drop, get_or, length, map, max, take, refl, sym, ap, arith}
use Rattle.std.proofs.lemmas.List.{append-nil, take_more}
use Rattle.std.specs.List.{slice_get}
use Rattle.kpn_model.specs.declared.token.Token.{Token}
use Rattle.kpn_tokens.specs.declared.columns.TokenColumn.{TokenColumn}
use Rattle.kpn_tokens.specs.declared.layouts.Cell.{Cell}
use Rattle.kpn_tokens.specs.declared.tables.Table.{Table}
use Rattle.kpn_tokens.specs.Tables.{ColumnView, below, cell_at, column_of, first_cell, first_of, longest, row_text, rows_text}

-- a column more
longest_more : (columns : List TokenColumn) (column : TokenColumn) → longest (map column_of (columns ++ column ∷ [])) ≡ max (longest (map column_of columns)) (length column.tokens.now)
longest_more [] column = omega arith
longest_more (first ∷ columns) column = let more = longest_more columns column in omega (arith, more)

pub next_longest : (columns : List TokenColumn) (i : ℕ) (d : TokenColumn) → i < length columns → longest (map column_of (take (i + 1) columns)) ≡ max (longest (map column_of (take i columns))) (length (get_or columns i d).tokens.now)
next_longest columns i d within = ap (λ (l : List TokenColumn). longest (map column_of l)) (take_more columns i d within) ∙ longest_more (take i columns) (get_or columns i d)

first_at : (tokens : List Token) → slice_get tokens 0 ≡ first_of tokens
first_at [] = refl
first_at (token ∷ tokens) = refl

below_at : (tokens : List Token) (n : ℕ) → slice_get (drop 1 tokens) n ≡ slice_get tokens (suc n)
below_at [] n = refl
below_at (token ∷ tokens) n = refl

first_cells : (columns : List ColumnView) → map (cell_at 0) columns ≡ map first_cell columns
first_cells [] = refl
first_cells (c ∷ cs) =
    let here : cell_at 0 c ≡ first_cell c = ap (λ (o : Option Token). record { decimals = c.decimals; token = o }) (first_at c.tokens) in
    ap (λ (cell : Cell). cell ∷ map (cell_at 0) cs) here ∙ ap (λ (cells : List Cell). first_cell c ∷ cells) (first_cells cs)

lower_cells : (columns : List ColumnView) (n : ℕ) → map (cell_at n) (map below columns) ≡ map (cell_at (suc n)) columns
lower_cells [] n = refl
lower_cells (c ∷ cs) n =
    let here : cell_at n (below c) ≡ cell_at (suc n) c = ap (λ (o : Option Token). record { decimals = c.decimals; token = o }) (below_at c.tokens n) in
    ap (λ (cell : Cell). cell ∷ map (cell_at n) (map below cs)) here ∙ ap (λ (cells : List Cell). cell_at (suc n) c ∷ cells) (lower_cells cs n)

-- a row more: that at the place after the first ones
next_row : (table : Table) (n : ℕ) (columns : List ColumnView) → rows_text table (suc n) columns ≡ rows_text table n columns ++ row_text table (map (cell_at n) columns)
next_row table zero columns = append-nil (row_text table (map first_cell columns)) ∙ ap (row_text table) (sym (first_cells columns))
next_row table (suc n) columns =
    let first = row_text table (map first_cell columns) in
    let more = next_row table n (map below columns) in
    let lower = ap (λ (cells : List Cell). rows_text table n (map below columns) ++ row_text table cells) (lower_cells columns n) in
    ap (λ (l : List ℕ). first ++ l) (more ∙ lower) ∙ sym (append_assoc first (rows_text table n (map below columns)) (row_text table (map (cell_at (suc n)) columns)))

pub one_row_more : (table : Table) (n : ℕ) (columns : List ColumnView) → rows_text table (n + 1) columns ≡ rows_text table n columns ++ row_text table (map (cell_at n) columns)
one_row_more table n columns = ap (λ (k : ℕ). rows_text table k columns) (add-one n) ∙ next_row table n columns
