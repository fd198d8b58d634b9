-- Files of records: where one ends, what it says, and how it writes a token.
use Rattle.std.specs.Prelude.{◌≡◌, ◌<◌, ◌≤◌, ◌==◌, ◌^◌, ◌++◌, ◌⊎◌, ℕ, suc, Bool, true, false, codes, drop, length, not, take, if◌then◌else◌, List, [], ◌∷◌, Option, Some, None, IfSome, Result, Ok, Err, IfOk, ⊤, ◌+◌}
use Rattle.std.specs.List.{after_first, before_first, count_by, flat_map, position, position_or_len}
use Rattle.std.specs.Str.{is_utf8, trim}
use Rattle.csv.specs.Reading.{strip_bom}
use Rattle.kpn_model.specs.declared.token.Sort.{Sort}
use Rattle.kpn_model.specs.declared.token.Sort.TheVariants.{Words, Flags}
use Rattle.kpn_model.specs.declared.token.Token.{Token}
use Rattle.kpn_model.specs.declared.token.Token.TheVariants.{Word, Flag}
use Rattle.kpn_model.specs.Valid.{IsOfSort}
use Rattle.kpn_tokens.specs.declared.layouts.Cut.{Cut}
use Rattle.kpn_tokens.specs.declared.layouts.Decimals.{Decimals}
use Rattle.kpn_tokens.specs.declared.layouts.Layout.{Layout}
use Rattle.kpn_tokens.specs.declared.layouts.Layout.TheVariants.{Lines, Fields, Frames}
use Rattle.kpn_tokens.specs.declared.layouts.RecordFault.{RecordFault}
use Rattle.kpn_tokens.specs.declared.layouts.RecordFault.TheVariants.{NoText}
use Rattle.kpn_tokens.specs.declared.reading.TokensFault.{TokensFault}
use Rattle.kpn_tokens.specs.declared.reading.TokensFault.TheVariants.{Record}
use Rattle.kpn_tokens.specs.declared.appending.AppendFault.{AppendFault}
use Rattle.kpn_tokens.specs.declared.appending.AppendFault.TheVariants.{DoesNotFit}
use Rattle.kpn_tokens.specs.Numbers.{token_said, token_text}
use Rattle.kpn_tokens.specs.Rows.{field_text, is_line_feed, row_in, row_said}
use Rattle.kpn_tokens.specs.Samples.{frame_said, frame_size, frame_text, has_sample}

-- the first record of a text, without its line feed, and what follows it
abbrev pub first : Layout → List ℕ → List ℕ
first (Lines decimals) text = before_first is_line_feed text
first (Fields column) text = before_first is_line_feed text
first (Frames frame) text = take (frame_size frame) text

abbrev pub rest : Layout → List ℕ → List ℕ
rest (Lines decimals) text = after_first is_line_feed text
rest (Fields column) text = after_first is_line_feed text
rest (Frames frame) text = drop (frame_size frame) text

-- the first column, up to a comment and to a comma, without surrounding blanks
abbrev pub cell : List ℕ → List ℕ
cell line = trim (before_first (λ b. b == 44) (before_first (λ b. b == 35) line))

abbrev pub cell_said : Decimals → Sort → List ℕ → Result (Option Token) RecordFault
cell_said decimals sort [] = Ok None
cell_said decimals sort (b ∷ bs) = token_said decimals sort (b ∷ bs)

abbrev pub text_said : Decimals → Sort → List ℕ → Result (Option Token) RecordFault
text_said decimals sort line = if is_utf8 line then cell_said decimals sort (cell line) else Err NoText

-- what the first line says; a byte order mark before it is ignored
abbrev pub line_said : Decimals → Sort → List ℕ → Result (Option Token) RecordFault
line_said decimals sort text = text_said decimals sort (strip_bom (before_first is_line_feed text))

-- what a record says: a token, nothing, or a fault; a byte order mark before a line is ignored
abbrev pub record_said : Layout → Sort → List ℕ → Result (Option Token) RecordFault
record_said (Lines decimals) sort bytes = text_said decimals sort (strip_bom bytes)
record_said (Fields column) sort bytes = row_said column sort (row_in column.separator bytes)
record_said (Frames frame) sort bytes = frame_said frame sort bytes

-- the result is a token of the sort, or nothing, or a fault
abbrev pub IsSaidOf : Sort → Result (Option Token) RecordFault → Type 0
IsSaidOf sort said = IfOk said (λ o. IfSome o (IsOfSort sort))

abbrev pub listed : Option Token → List Token
listed None = []
listed (Some token) = token ∷ []

-- the first record of a text says this, or has this fault
abbrev pub FirstSays : Layout → Sort → List ℕ → Option Token → Type 0
FirstSays layout sort text said = record_said layout sort (first layout text) ≡ Ok said

abbrev pub FirstFails : Layout → Sort → List ℕ → RecordFault → Type 0
FirstFails layout sort text fault = record_said layout sort (first layout text) ≡ Err fault

-- the records of a text have these tokens; the last line needs no line feed
pub data Say (layout : Layout) (sort : Sort) : List ℕ → List Token → Type 0 where
  nothing : {text : List ℕ} → length text ≡ 0 → Say layout sort text []
  next : {text : List ℕ} {tokens : List Token} (said : Option Token) → 0 < length text → FirstSays layout sort text said
      → Say layout sort (rest layout text) tokens → Say layout sort text (listed said ++ tokens)

-- the first records of a text have these tokens
pub data Begin (layout : Layout) (sort : Sort) : List ℕ → List Token → Type 0 where
  stop : {text : List ℕ} → Begin layout sort text []
  more : {text : List ℕ} {tokens : List Token} (said : Option Token) → 0 < length text → FirstSays layout sort text said
      → Begin layout sort (rest layout text) tokens → Begin layout sort text (listed said ++ tokens)

-- the first record with a fault, counted from 1, and the fault
pub data Fails (layout : Layout) (sort : Sort) : List ℕ → ℕ → RecordFault → Type 0 where
  here : {text : List ℕ} {fault : RecordFault} → 0 < length text → FirstFails layout sort text fault
      → Fails layout sort text 1 fault
  later : {text : List ℕ} {number : ℕ} {fault : RecordFault} (said : Option Token)
      → 0 < length text → FirstSays layout sort text said
      → Fails layout sort (rest layout text) number fault → Fails layout sort text (suc number) fault

-- a result that names a record and a fault names the first
abbrev pub NamesFirstFault : {T : Type 0} → Layout → Sort → List ℕ → Result T TokensFault → Type 0
NamesFirstFault layout sort text result =
    (number : ℕ) (fault : RecordFault) → result ≡ Err (Record number fault) → Fails layout sort text number fault

-- there are more than a million tokens
abbrev pub HasTooMany : Layout → Sort → List ℕ → Type 0
HasTooMany layout sort text = (tokens : List Token) × Begin layout sort text tokens × (length tokens ≡ 1000001)

-- the fault of a record is that of this one, which has this number
abbrev pub NamesFaultOf : Layout → Sort → List ℕ → ℕ → TokensFault → Type 0
NamesFaultOf layout sort bytes number e =
    (n : ℕ) (fault : RecordFault) → e ≡ Record n fault → (number ≡ n) × (record_said layout sort bytes ≡ Err fault)

-- the first record is complete; or no more bytes come
abbrev pub IsEnded : Layout → List ℕ → Type 0
IsEnded (Lines decimals) text = position_or_len is_line_feed text < length text
IsEnded (Fields column) text = position_or_len is_line_feed text < length text
IsEnded (Frames frame) text = frame_size frame ≤ length text

abbrev pub IsWhole : Layout → List ℕ → Bool → Type 0
IsWhole layout text last = (last ≡ true) ⊎ IsEnded layout text

-- where the first record ends, without and with its line feed
pub record IsCut (layout : Layout) (text : List ℕ) (last : Bool) (cut : Cut) : Type 0 where
  pub ends : cut.length ≡ length (first layout text)
  pub taken : take cut.length text ≡ first layout text
  pub left : drop cut.used text ≡ rest layout text
  pub some : 0 < cut.used
  pub within : (cut.length ≤ cut.used) × (cut.used ≤ length text)
  pub whole : IsWhole layout text last

-- how many bytes the first line has, without its line feed
abbrev pub first_line_length : List ℕ → ℕ
first_line_length text = position_or_len is_line_feed text

-- the cut of the first line, with a line feed after it
abbrev pub line_cut : List ℕ → Cut
line_cut text = record { length = first_line_length text; used = first_line_length text + 1 }

-- the first line ends within the text, and this cut is its
abbrev pub IsLineCut : List ℕ → Cut → Type 0
IsLineCut text cut = (cut ≡ line_cut text) × (first_line_length text < length text)

-- the text has so many bytes, and this cut takes them
abbrev pub IsFrameCut : ℕ → List ℕ → Cut → Type 0
IsFrameCut size text cut = (cut ≡ record { length = size; used = size }) × (size ≤ length text)

-- a token as a record
abbrev pub record_text : Layout → Token → List ℕ
record_text (Lines decimals) token = token_text decimals token ++ codes "\n"
record_text (Fields column) token = field_text column token ++ codes "\n"
record_text (Frames frame) token = frame_text frame token

-- the record of a token has it, and not the nearest
abbrev pub fits : Layout → Token → Bool
fits (Lines decimals) token = true
fits (Fields column) token = true
fits (Frames frame) token = has_sample frame.sample token

abbrev pub misfits : Layout → List Token → ℕ
misfits layout tokens = count_by (λ token. not (fits layout token)) tokens

abbrev pub clips : Layout → Bool
clips (Lines decimals) = false
clips (Fields column) = false
clips (Frames frame) = frame.sample.clips

-- so many tokens do not fit, and each fits if the nearest may not be written
pub record IsMisfitCount (layout : Layout) (tokens : List Token) (n : ℕ) : Type 0 where
  pub all : n ≡ misfits layout tokens
  pub unclipped : clips layout ≡ false → n ≡ 0

-- a token of the sort, with a word of 64 bits
abbrev pub IsOf : Sort → Token → Type 0
IsOf Words (Word n) = n < 2 ^ 64
IsOf Words (Flag b) = ⊥
IsOf Flags (Word n) = ⊥
IsOf Flags (Flag b) = ⊤

abbrev pub AllFit : Layout → Sort → List Token → Type 0
AllFit layout sort [] = ⊤
AllFit layout sort (token ∷ tokens) = IsOf sort token × (fits layout token ≡ true) × AllFit layout sort tokens

-- written tokens that fit are read back unchanged
abbrev pub ReadsBack : Layout → Type 0
ReadsBack layout =
    (sort : Sort) (tokens : List Token)
    → AllFit layout sort tokens → Say layout sort (flat_map (record_text layout) tokens) tokens

-- the place of the first token that does not fit
abbrev pub misfit_place : Layout → List Token → Option ℕ
misfit_place layout tokens = position (λ token. not (fits layout token)) tokens

-- the token at this place is the first that does not fit; those before it were appended
pub record IsRefused (layout : Layout) (old new : List ℕ) (tokens : List Token) (place : ℕ) : Type 0 where
  pub unclipped : clips layout ≡ false
  pub first_misfit : position (λ token. not (fits layout token)) tokens ≡ Some place
  pub appended : new ≡ old ++ flat_map (record_text layout) (take place tokens)

-- a result that names a token names the first that does not fit, and those before it were appended
abbrev pub NamesMisfit : {T : Type 0} → Layout → List ℕ → List ℕ → List Token → Result T AppendFault → Type 0
NamesMisfit layout old new tokens result =
    (place : ℕ) → result ≡ Err (DoesNotFit place) → IsRefused layout old new tokens place
