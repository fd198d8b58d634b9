-- What is written of a run.
use Rattle.std.specs.Prelude.{◌≡◌, ◌≢◌, ◌⊎◌, ◌==◌, ◌||◌, ◌++◌, ◌-◌, ◌^◌, not, ℕ, Bool, true, false, length, map, min, List, [], ◌∷◌, Option, Some, None, string_bytes, nat_lt, if◌then◌else◌}
use Rattle.std.specs.List.{AllZip, flat_map}
use Rattle.std.specs.Option.{option_map_or}
use Rattle.kpn_tokens.specs.declared.layouts.Layout.{Layout}
use Rattle.kpn_tokens.specs.declared.layouts.Separator.TheVariants.{Comma}
use Rattle.kpn_tokens.specs.declared.tables.Table.{Table}
use Rattle.kpn_tokens.specs.declared.tables.Table.TheVariants.{Rows}
use Rattle.kpn_tokens.specs.Records.{record_text}
use Rattle.kpn_tokens.specs.Tables.{ColumnView, longest, table_text}
use Rattle.kpn_front.specs.declared.status.ExitStatus.{ExitStatus}
use Rattle.kpn_front.specs.declared.status.ExitStatus.TheVariants.{WriteFailed}
use Rattle.hox_format.specs.Forms.{form}
use Rattle.hox_format.specs.Heads.{head_text, layout_of, tail_text}
use Rattle.hox_format.specs.Tables.{decimals_of}
use Rattle.hox_network.specs.declared.request.TokenFile.{TokenFile}
use Rattle.hox_run.specs.declared.files.StreamFile.{StreamFile}
use Rattle.hox_run.specs.declared.telling.Told.{Told}
use Rattle.hox_files.specs.declared.pairs.Pair.{Pair}
use Rattle.hox_execute.specs.declared.running.Ran.{Ran}
use Rattle.hox_execute.specs.declared.texts.FileNote.{FileNote}
use Rattle.hox_files.specs.Files.{Effect, Effects, GoOn, not_said, not_written, said, standard, wrote}
use Rattle.hox_run.specs.Telling.{fitting}
use Rattle.hox_files.specs.Pairs.{channels_of, count_standard, firsts, group_in, is_alone, shared_in}
use Rattle.hox_files.specs.Requests.{Want}
use Rattle.hox_json.specs.Json.{json_text}

-- the samples per second if no file states them
abbrev pub usual_rate : ℕ
usual_rate = 44100

-- the first stated number of samples per second
abbrev pub first_rate : List (Option ℕ) → ℕ
first_rate [] = usual_rate
first_rate (None ∷ rates) = first_rate rates
first_rate (Some rate ∷ rates) = rate

abbrev pub rate_of : List TokenFile → ℕ
rate_of files = first_rate (map (λ (f : TokenFile). f.rate) files)

-- the tokens of one channel in a file
abbrev pub column_told : Pair → StreamFile → ColumnView
column_told p file = record { decimals = decimals_of (form p.format); tokens = file.tokens }

-- the tokens of a file, channel by channel
abbrev pub columns : List Pair → List StreamFile → List ColumnView
columns [] files = []
columns (p ∷ ps) [] = []
columns (p ∷ ps) (file ∷ files) = column_told p file ∷ columns ps files

-- how channels are arranged in the file of a pair
abbrev pub table_in : Pair → Table
table_in pair = option_map_or (λ s. s.table) (shared_in pair) (Rows Comma)

-- the tokens of a single channel as records, up to the first that does not fit; those of several as rows
abbrev pub alone_text : Layout → List ColumnView → List ℕ
alone_text layout [] = []
alone_text layout (column ∷ columns) = flat_map (record_text layout) (fitting layout column.tokens)

-- the tokens of a file for one channel alone
abbrev pub alone_body : Pair → List ColumnView → List ℕ
alone_body pair columns = alone_text (layout_of (form pair.format)) columns

abbrev pub body_text : Pair → List ColumnView → List ℕ
body_text pair columns = if is_alone pair then alone_body pair columns else table_text (table_in pair) columns

-- how many frames the head of a file states
abbrev pub frames_told : List ColumnView → Option ℕ
frames_told columns = Some (min (longest columns) (2 ^ 32 - 1))

-- what precedes the tokens of a file, and the tokens
abbrev pub head_and_body : ℕ → Pair → List (List ℕ) → List ColumnView → List ℕ
head_and_body rate pair names columns =
    head_text (form pair.format) names rate (frames_told columns) ++ body_text pair columns

-- what follows the tokens of a file
abbrev pub tail_of : Pair → List ColumnView → List ℕ
tail_of pair columns = tail_text (form pair.format) (length (body_text pair columns)) (frames_told columns)

-- a file of streams: what precedes their tokens, the tokens, and what follows them
abbrev pub text_of : ℕ → Pair → List (List ℕ) → List ColumnView → List ℕ
text_of rate pair names columns = head_and_body rate pair names columns ++ tail_of pair columns

abbrev pub file_text : ℕ → List Pair → List StreamFile → List ℕ
file_text rate [] files = []
file_text rate (p ∷ ps) files = text_of rate p (channels_of (group_in (p ∷ ps))) (columns (group_in (p ∷ ps)) files)

-- the text of the file that begins with pair p, if one does, before these texts
abbrev pub with_text_at : ℕ → Pair → List Pair → StreamFile → List StreamFile → List (List ℕ) → List (List ℕ)
with_text_at rate p ps file files texts =
    if p.place == 0 then file_text rate (p ∷ ps) (file ∷ files) ∷ texts else texts

-- each file belongs to the pairs from a first channel on
abbrev pub file_texts : ℕ → List Pair → List StreamFile → List (List ℕ)
file_texts rate [] files = []
file_texts rate (p ∷ ps) [] = []
file_texts rate (p ∷ ps) (file ∷ files) = with_text_at rate p ps file files (file_texts rate ps files)

abbrev pub file_note : StreamFile → FileNote
file_note file = record { tokens = length file.tokens; clipped = file.clipped; is_misfit = file.is_misfit }

pub record IsNoted (tokens outputs : List Pair) (told : Told) (ran : Ran) : Type 0 where
  pub notes : ran.notes ≡ told.notes
  pub tokens_are : ran.tokens.items ≡ tokens
  pub outputs_are : ran.outputs.items ≡ outputs
  pub files : ran.files.items ≡ map file_note told.outputs.items

-- a report goes to standard output, or to standard error if a stream goes to standard output
abbrev pub reported : List Pair → List ℕ → Effect
reported outputs report = if nat_lt 0 (count_standard outputs) then said report else wrote standard report

abbrev pub streams_written : List Pair → List (List ℕ) → List Effect
streams_written [] texts = []
streams_written (p ∷ ps) [] = []
streams_written (p ∷ ps) (text ∷ texts) = wrote p.file.now text ∷ streams_written ps texts

-- the report, and then the streams
abbrev pub report_and_streams : List Pair → List ℕ → List (List ℕ) → List Effect
report_and_streams outputs report texts = reported outputs report ∷ streams_written outputs texts

-- the report, unless the command is quiet, and then the streams
abbrev pub told_written : Bool → List Pair → List ℕ → List (List ℕ) → List Effect
told_written true outputs report texts = streams_written outputs texts
told_written false outputs report texts = report_and_streams outputs report texts

-- the report as lines, or those as JSON
abbrev pub report_as : Bool → List ℕ → List ℕ
report_as is_json report = if is_json then json_text report else report

-- the report that is told, as it is wanted
abbrev pub report_wanted : Want → Told → List ℕ
report_wanted want told = report_as want.is_json (string_bytes told.report)

abbrev pub written_of : Want → ℕ → List Pair → Told → List Effect
written_of want rate outputs told =
    told_written want.is_quiet (firsts outputs) (report_wanted want told) (file_texts rate outputs told.outputs.items)

-- what is left of an effect that fails
abbrev pub failure_of : Effect → Effect
failure_of (wrote name bytes) = not_written name
failure_of (said text) = not_said
failure_of (not_written name) = not_written name
failure_of not_said = not_said

abbrev pub is_failure : Effect → Bool
is_failure (wrote name bytes) = false
is_failure (said text) = false
is_failure (not_written name) = true
is_failure not_said = true

abbrev pub has_failure : List Effect → Bool
has_failure [] = false
has_failure (e ∷ es) = is_failure e || has_failure es

-- an effect happens, or fails
abbrev pub IsTried : Effect → Effect → Type 0
IsTried due effect = (effect ≡ due) ⊎ (effect ≡ failure_of due)

-- these effects are due, and whether all are done
module _ (effects : List Effect) (are_done : Bool) where
  -- each is tried, in order and even if another failed; and whether none failed
  pub record Tries (before after : Effects) : Type 0 where
    pub tried : List Effect
    pub each : AllZip IsTried effects tried
    pub none_failed : are_done ≡ not (has_failure tried)
    pub goes_on : GoOn tried before after

  -- each is tried, and where no write can fail, none fails
  pub record TriesAll (steady_before : Bool) (before : Effects) (steady_after : Bool) (after : Effects) : Type 0 where
    pub tries : Tries before after
    pub steady : steady_before ≡ true → (are_done ≡ true) × (steady_after ≡ true)

-- after whatever was tried before, this effect is tried too
abbrev pub TriesNext : Effect → Bool → Effects → Bool → Effects → Type 0
TriesNext effect were_done middle are_done after =
    (earlier : List Effect) (start : Effects)
    → Tries earlier were_done start middle → Tries (earlier ++ effect ∷ []) are_done start after

-- the intended status, and the effects that are due
module _ (status : ExitStatus) (effects : List Effect) where
  -- each effect is tried. The status is the intended one if none fails, else 7. So if it is not 7, all is
  -- written, and 7 occurs only if a write can fail, or 7 is intended
  pub record Writes (steady : Bool) (before after : Effects) (given : ExitStatus) : Type 0 where
    pub are_done : Bool
    pub tries : Tries effects are_done before after
    pub is : given ≡ (if are_done then status else WriteFailed)
    pub done : given ≢ WriteFailed → (given ≡ status) × GoOn effects before after
    pub sure : steady ≡ true → given ≡ status
