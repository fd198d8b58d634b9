-- Files with several channels side by side.
use Rattle.std.specs.Prelude.{◌≡◌, ◌<◌, ◌++◌, ℕ, zero, suc, false, codes, drop, get_or, length, map, max, List, [], ◌∷◌, Option, Some, None}
use Rattle.std.specs.List.{AllByRecursion, flat_map, slice_get}
use Rattle.kpn_model.specs.declared.token.Sort.{Sort}
use Rattle.kpn_model.specs.declared.token.Token.{Token}
use Rattle.kpn_tokens.specs.declared.columns.TokenColumn.{TokenColumn}
use Rattle.kpn_tokens.specs.declared.layouts.Cell.{Cell}
use Rattle.kpn_tokens.specs.declared.layouts.Decimals.{Decimals}
use Rattle.kpn_tokens.specs.declared.layouts.Layout.{Layout}
use Rattle.kpn_tokens.specs.declared.layouts.Layout.TheVariants.{Fields, Frames}
use Rattle.kpn_tokens.specs.declared.layouts.Column.{Column}
use Rattle.kpn_tokens.specs.declared.layouts.Sample.{Sample}
use Rattle.kpn_tokens.specs.declared.layouts.Separator.{Separator}
use Rattle.kpn_tokens.specs.declared.tables.Table.{Table}
use Rattle.kpn_tokens.specs.declared.tables.Table.TheVariants.{Rows, Samples}
use Rattle.kpn_tokens.specs.Records.{AllFit, Say}
use Rattle.kpn_tokens.specs.Rows.{cells_text}
use Rattle.kpn_tokens.specs.Samples.{channel_text, frame_at}

-- a frame of samples, 0 for an absent token
abbrev pub samples_text : Sample → List Cell → List ℕ
samples_text sample cells = flat_map (λ cell. channel_text sample cell.token) cells

-- a line of fields, empty for an absent token; or a frame of samples, 0 for an absent token
abbrev pub row_text : Table → List Cell → List ℕ
row_text (Rows separator) cells = cells_text separator cells ++ codes "\n"
row_text (Samples sample) cells = samples_text sample cells

-- the column of fields at this place
abbrev pub field_column : Separator → ℕ → Decimals → Column
field_column separator place decimals = record { place = place; separator = separator; decimals = decimals }

-- one column of `count`, by itself
abbrev pub column_layout : Table → ℕ → ℕ → Decimals → Layout
column_layout (Rows separator) count place decimals = Fields (field_column separator place decimals)
column_layout (Samples sample) count place decimals = Frames (frame_at sample count place)

-- the tokens of a channel, and how it writes a word
pub record ColumnView : Type 0 where
  pub decimals : Decimals
  pub tokens : List Token

abbrev pub column_of : TokenColumn → ColumnView
column_of c = record { decimals = c.decimals; tokens = c.tokens.now }

abbrev pub no_column : ColumnView
no_column = record { decimals = record { digits = 0; is_unsigned = false }; tokens = [] }

abbrev pub first_of : List Token → Option Token
first_of [] = None
first_of (token ∷ tokens) = Some token

abbrev pub first_cell : ColumnView → Cell
first_cell column = record { decimals = column.decimals; token = first_of column.tokens }

abbrev pub cell_at : ℕ → ColumnView → Cell
cell_at place column = record { decimals = column.decimals; token = slice_get column.tokens place }

abbrev pub below : ColumnView → ColumnView
below column = record { decimals = column.decimals; tokens = drop 1 column.tokens }

-- the first n rows; a token is absent where a column has none
abbrev pub rows : ℕ → List ColumnView → List (List Cell)
rows zero columns = []
rows (suc n) columns = map first_cell columns ∷ rows n (map below columns)

abbrev pub rows_text : Table → ℕ → List ColumnView → List ℕ
rows_text table n columns = flat_map (row_text table) (rows n columns)

abbrev pub longest : List ColumnView → ℕ
longest [] = 0
longest (column ∷ columns) = max (length column.tokens) (longest columns)

abbrev pub table_text : Table → List ColumnView → List ℕ
table_text table columns = rows_text table (longest columns) columns

-- n tokens of one sort, which fit
pub record IsFilled (table : Table) (n : ℕ) (column : ColumnView) : Type 0 where
  pub sort : Sort
  pub fit : AllFit (column_layout table 1 0 column.decimals) sort column.tokens
  pub filled : length column.tokens ≡ n

-- the layout and the tokens of the column at this place
abbrev pub layout_at : Table → List ColumnView → ℕ → Layout
layout_at table columns place =
    column_layout table (length columns) place (get_or columns place no_column).decimals

abbrev pub column_tokens : List ColumnView → ℕ → List Token
column_tokens columns place = (get_or columns place no_column).tokens

-- written columns of tokens that fit, all of one length, are read back unchanged
abbrev pub ReadsColumnsBack : Table → Type 0
ReadsColumnsBack table =
    (n : ℕ) (columns : List ColumnView) (place : ℕ) (sort : Sort)
    → AllByRecursion (IsFilled table n) columns → place < length columns
    → AllFit (layout_at table columns place) sort (column_tokens columns place)
    → Say (layout_at table columns place) sort (table_text table columns) (column_tokens columns place)
