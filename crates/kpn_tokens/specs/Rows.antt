-- Lines of fields, as `csv` reads them.
use Rattle.std.specs.Prelude.{◌≡◌, ◌==◌, ◌++◌, ℕ, Bool, List, [], ◌∷◌, if◌then◌else◌, replicate, Option, Some, None, Result, Ok, Err, IfOk}
use Rattle.std.specs.Borrow.{Bor}
use Rattle.std.specs.List.{flat_map, list_any}
use Rattle.std.specs.Option.{option_map_or}
use Rattle.std.specs.Str.{is_utf8, trim}
use Rattle.csv.specs.Reading.{Ready, default_config, reader_config, reader_state, reader_trim, records, source_of, strip_bom}
use Rattle.csv.specs.Records.{Row, field_at, fields_of}
use Rattle.csv.specs.declared.parser.Config.{Config}
use Rattle.csv.specs.declared.parser.State.TheVariants as st
use Rattle.csv.specs.declared.reader.Reader.{Reader}
use Rattle.csv.specs.declared.reader.Trim.TheVariants as trim
use Rattle.kpn_model.specs.declared.token.Sort.{Sort}
use Rattle.kpn_model.specs.declared.token.Token.{Token}
use Rattle.kpn_tokens.specs.declared.layouts.Cell.{Cell}
use Rattle.kpn_tokens.specs.declared.layouts.Column.{Column}
use Rattle.kpn_tokens.specs.declared.layouts.Decimals.{Decimals}
use Rattle.kpn_tokens.specs.declared.layouts.Separator.{Separator}
use Rattle.kpn_tokens.specs.declared.layouts.Separator.TheVariants.{Comma, Semicolon, Tab}
use Rattle.kpn_tokens.specs.declared.layouts.RecordFault.{RecordFault}
use Rattle.kpn_tokens.specs.declared.layouts.RecordFault.TheVariants.{NoText, NoField, EmptyField, OpenQuote, TwoRows}
use Rattle.kpn_tokens.specs.Numbers.{token_said, token_text}

abbrev pub is_line_feed : ℕ → Bool
is_line_feed b = b == 10

abbrev pub separator_byte : Separator → ℕ
separator_byte Comma = 44
separator_byte Semicolon = 59
separator_byte Tab = 9

abbrev pub config_of : Separator → Config
config_of separator = record default_config { delimiter = separator_byte separator }

-- the rows of a line: none if it is blank, more than one if a carriage return within it ends a row
abbrev pub rows_of : Separator → List ℕ → List (List (List ℕ))
rows_of separator line = records (config_of separator) (strip_bom (line ++ 10 ∷ []))

-- a reader at the beginning of a line of fields, with nothing else
pub record IsAtLine (separator : Separator) (line : List ℕ) (reader : Reader (Bor (List ℕ))) : Type 0 where
  pub config : reader_config reader ≡ config_of separator
  pub trim : reader_trim reader ≡ trim.None
  pub ready : Ready reader
  pub state : reader_state reader ≡ st.StartRecord
  pub source : source_of (λ bytes. Some bytes.now) reader ≡ Some (strip_bom (line ++ 10 ∷ []))

-- a field continues past the end of the line
abbrev pub is_open_field : List ℕ → Bool
is_open_field field = list_any is_line_feed field

abbrev pub is_open : List (List ℕ) → Bool
is_open row = list_any is_open_field row

-- what the text of a field says, without surrounding blanks
abbrev pub filled_said : Decimals → Sort → List ℕ → Result (Option Token) RecordFault
filled_said decimals sort [] = Err EmptyField
filled_said decimals sort (b ∷ bs) = token_said decimals sort (b ∷ bs)

abbrev pub field_said : Decimals → Sort → Option (List ℕ) → Result (Option Token) RecordFault
field_said decimals sort None = Err NoField
field_said decimals sort (Some field) = if is_utf8 field then filled_said decimals sort (trim field) else Err NoText

-- the row of a line, if it is not blank; or what is wrong with the line
abbrev pub only_row : List (List (List ℕ)) → Result (Option (List (List ℕ))) RecordFault
only_row [] = Ok None
only_row (row ∷ []) = if is_open row then Err OpenQuote else Ok (Some row)
only_row (row ∷ other ∷ rows) = Err TwoRows

abbrev pub row_in : Separator → List ℕ → Result (Option (List (List ℕ))) RecordFault
row_in separator line = only_row (rows_of separator line)

-- what contracts see of it
abbrev pub seen_row : Result (Option Row) RecordFault → Result (Option (List (List ℕ))) RecordFault
seen_row (Ok None) = Ok None
seen_row (Ok (Some row)) = Ok (Some (fields_of row))
seen_row (Err fault) = Err fault

-- what the field of the column says
abbrev pub row_said : Column → Sort → Result (Option (List (List ℕ))) RecordFault → Result (Option Token) RecordFault
row_said column sort (Err fault) = Err fault
row_said column sort (Ok None) = Ok None
row_said column sort (Ok (Some row)) = field_said column.decimals sort (field_at row column.place)

-- a token in the field of its column, after empty ones
abbrev pub field_text : Column → Token → List ℕ
field_text column token = replicate column.place (separator_byte column.separator) ++ token_text column.decimals token

-- cells with a separator between them, and an empty field for an absent token
abbrev pub cell_text : Cell → List ℕ
cell_text cell = option_map_or (token_text cell.decimals) cell.token []

abbrev pub separator_before : Separator → ℕ → List ℕ
separator_before separator place = if place == 0 then [] else separator_byte separator ∷ []

-- a cell after its separator
abbrev pub separated_text : Separator → Cell → List ℕ
separated_text separator cell = separator_byte separator ∷ cell_text cell

abbrev pub cells_text : Separator → List Cell → List ℕ
cells_text separator [] = []
cells_text separator (cell ∷ cells) = cell_text cell ++ flat_map (separated_text separator) cells

-- the reader's result is the row of the line at which it was
abbrev pub ReadsRow : {E : Type 0} → Reader (Bor (List ℕ)) → Result (Result (Option Row) RecordFault) E → Type 0
ReadsRow reader result =
    (separator : Separator) (line : List ℕ)
    → IsAtLine separator line reader → IfOk result (λ row. seen_row row ≡ row_in separator line)
