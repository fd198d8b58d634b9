-- Where the records of a file are, and what may be wrong before them.
use Rattle.std.specs.Prelude.{◌≡◌, ◌≤◌, ◌*◌, ◌^◌, ◌==◌, ℕ, Bool, drop, length, nat_lt, take, unwrap_or, if◌then◌else◌, List, Option, Some, None, IfSome, IsSome, Result, Ok, Err, IfOk}
use Rattle.kpn_tokens.specs.declared.heads.WavHead.{WavHead}
use Rattle.kpn_tokens.specs.declared.layouts.Cut.{Cut}
use Rattle.kpn_tokens.specs.declared.layouts.Frame.{Frame}
use Rattle.kpn_tokens.specs.declared.layouts.Layout.{Layout}
use Rattle.kpn_tokens.specs.declared.layouts.Layout.TheVariants.{Lines, Fields, Frames}
use Rattle.kpn_tokens.specs.declared.layouts.RecordFault.{RecordFault}
use Rattle.kpn_tokens.specs.declared.layouts.RecordFault.TheVariants.{NoField}
use Rattle.kpn_tokens.specs.declared.layouts.Sample.{Sample}
use Rattle.kpn_tokens.specs.Heads.{IsFrameOf, IsWavFault, IsWavHead, IsWavWanting, column_in}
use Rattle.kpn_tokens.specs.Records.{first_line_length, line_cut}
use Rattle.kpn_tokens.specs.Rows.{row_in}
use Rattle.kpn_tokens.specs.Samples.{bytes_in, frame_at}
use Rattle.kpn_tokens.specs.Tables.{field_column}
use Rattle.hox_format.specs.declared.records.FirstBytes.{FirstBytes}
use Rattle.hox_format.specs.declared.records.Records.{Records}
use Rattle.hox_format.specs.declared.records.HeadFault.{HeadFault}
use Rattle.hox_format.specs.declared.records.HeadFault.TheVariants.{Wav, NoColumn, Names, Channels, NoChannel, TooLong, TooWide}
use Rattle.hox_format.specs.declared.formats.Raw.{Raw}
use Rattle.hox_format.specs.declared.formats.Wav.{Wav as WavFile}
use Rattle.hox_format.specs.Forms.{Chosen, at, called, Form, lines, table, wave, samples, Table}

-- the bytes of a file's records
abbrev pub sized : Option ℕ → List ℕ → List ℕ
sized None bytes = bytes
sized (Some size) bytes = take size bytes

abbrev pub records_bytes : Records → List ℕ → List ℕ
records_bytes records bytes = sized records.size (drop records.start bytes)

abbrev pub to_end : Layout → Records
to_end layout = record { layout = layout; start = 0; size = None; rate = None }

-- the rows of a CSV file from a byte on, with the column at a place
abbrev pub rows_from : Table → ℕ → ℕ → Records
rows_from t place start = record (to_end (Fields (field_column t.separator place t.decimals))) { start = start }

-- the row of names ends with its line feed, or with the file, and has at most 65,536 bytes
abbrev pub names_row : List ℕ → Bool → Result (Option Cut) HeadFault
names_row bytes last =
    if nat_lt 65536 (first_line_length bytes) then Err TooLong
    else if nat_lt (first_line_length bytes) (length bytes) then Ok (Some (line_cut bytes))
    else if last then Ok (Some (record { length = length bytes; used = length bytes })) else Ok None

-- the column at a place, after the row of names
abbrev pub behind : Table → ℕ → Result (Option Cut) HeadFault → Result (Option Records) HeadFault
behind t place (Err fault) = Err fault
behind t place (Ok None) = Ok None
behind t place (Ok (Some row)) = Ok (Some (rows_from t place row.used))

abbrev pub placed_records : Table → ℕ → List ℕ → Bool → Result (Option Records) HeadFault
placed_records t place bytes last =
    if t.has_header then behind t place (names_row bytes last) else Ok (Some (rows_from t place 0))

-- the column of a name, after the row of names
abbrev pub name_fault : RecordFault → HeadFault
name_fault NoField = NoColumn
name_fault fault = Names fault

abbrev pub found : Table → ℕ → Result ℕ RecordFault → Result (Option Records) HeadFault
found t start (Ok place) = Ok (Some (rows_from t place start))
found t start (Err fault) = Err (name_fault fault)

-- the place of the column with this name in a row of names
abbrev pub column_in_row : Table → List ℕ → List ℕ → Cut → Result ℕ RecordFault
column_in_row t name bytes row = column_in name (row_in t.separator (take row.length bytes))

abbrev pub named_behind : Table → List ℕ → List ℕ → Result (Option Cut) HeadFault → Result (Option Records) HeadFault
named_behind t name bytes (Err fault) = Err fault
named_behind t name bytes (Ok None) = Ok None
named_behind t name bytes (Ok (Some row)) = found t row.used (column_in_row t name bytes row)

abbrev pub named_records : Table → List ℕ → List ℕ → Bool → Result (Option Records) HeadFault
named_records t name bytes last = named_behind t name bytes (names_row bytes last)

-- the chosen column, or the one at the channel's place
abbrev pub column_records : Table → Option Chosen → ℕ → List ℕ → Bool → Result (Option Records) HeadFault
column_records t None place bytes last = placed_records t place bytes last
column_records t (Some (at chosen)) place bytes last = placed_records t chosen bytes last
column_records t (Some (called name)) place bytes last = named_records t name bytes last

abbrev pub csv_records : Table → ℕ → List ℕ → Bool → Result (Option Records) HeadFault
csv_records t place bytes last = column_records t t.column place bytes last

-- this channel, if there are as many
abbrev pub channel_within : ℕ → ℕ → Result ℕ HeadFault
channel_within channel has = if nat_lt channel has then Ok channel else Err (NoChannel has)

-- the chosen channel; else the one at `place`, if the file is given for as many as it has
abbrev pub channel_of : Option ℕ → ℕ → ℕ → ℕ → Result ℕ HeadFault
channel_of (Some channel) place count has = channel_within channel has
channel_of None place count has = if count == has then channel_within place has else Err (Channels has)

-- the frames of one of these channels
abbrev pub channel_frame : Sample → ℕ → ℕ → Frame
channel_frame sample channels channel = frame_at sample channels channel

-- samples without a head: as many channels as stated, or as the file is given for
abbrev pub framed : Sample → ℕ → Result ℕ HeadFault → Result (Option Records) HeadFault
framed sample channels (Ok channel) = Ok (Some (to_end (Frames (channel_frame sample channels channel))))
framed sample channels (Err fault) = Err fault

-- the frames of the channel, if there is one
abbrev pub framed_channel : Raw → ℕ → ℕ → ℕ → Result (Option Records) HeadFault
framed_channel raw place count has = framed raw.sample has (channel_of raw.channel place count has)

abbrev pub raw_records : Raw → ℕ → ℕ → Result (Option Records) HeadFault
raw_records raw place count =
    let has = unwrap_or raw.channels count in
    if nat_lt 65535 (has * bytes_in raw.sample.width) then Err TooWide else framed_channel raw place count has

-- a channel of a WAV file with this head
pub record AreChannelRecords (head : WavHead) (channel : ℕ) (records : Records) : Type 0 where
  pub frame : Frame
  pub framed : IsFrameOf head channel frame
  pub layout : records.layout ≡ Frames frame
  pub start : records.start ≡ head.start
  pub size : records.size ≡ head.size
  pub rate : records.rate ≡ Some head.rate

-- the channel is this one, or why there is none
abbrev pub ChannelIs : WavFile → ℕ → ℕ → WavHead → Result ℕ HeadFault → Type 0
ChannelIs wav place count head channel = channel_of wav.channel place count head.channels ≡ channel

abbrev pub IsChannelResult : WavFile → ℕ → ℕ → WavHead → Result Records HeadFault → Type 0
IsChannelResult wav place count head (Ok records) =
    (channel : ℕ) × ChannelIs wav place count head (Ok channel) × AreChannelRecords head channel records
IsChannelResult wav place count head (Err (Wav fault)) = ⊥
IsChannelResult wav place count head (Err NoColumn) = ⊥
IsChannelResult wav place count head (Err (Names fault)) = ⊥
IsChannelResult wav place count head (Err (Channels has)) = ChannelIs wav place count head (Err (Channels has))
IsChannelResult wav place count head (Err (NoChannel has)) = ChannelIs wav place count head (Err (NoChannel has))
IsChannelResult wav place count head (Err TooLong) = ⊥
IsChannelResult wav place count head (Err TooWide) = 2 ^ 16 ≤ head.channels * bytes_in head.sample.width

-- a channel of a WAV file; or why it has no head, or none yet
abbrev pub AreHeadedRecords : WavFile → ℕ → ℕ → List ℕ → Result Records HeadFault → Type 0
AreHeadedRecords wav place count bytes records =
    (head : WavHead) × IsWavHead bytes head × IsChannelResult wav place count head records

abbrev pub AreWavRecords : WavFile → ℕ → ℕ → List ℕ → Bool → Result (Option Records) HeadFault → Type 0
AreWavRecords wav place count bytes last (Ok (Some records)) = AreHeadedRecords wav place count bytes (Ok records)
AreWavRecords wav place count bytes last (Ok None) = IsWavWanting bytes last
AreWavRecords wav place count bytes last (Err (Wav fault)) = IsWavFault bytes last fault
AreWavRecords wav place count bytes last (Err NoColumn) = ⊥
AreWavRecords wav place count bytes last (Err (Names fault)) = ⊥
AreWavRecords wav place count bytes last (Err (Channels has)) =
    AreHeadedRecords wav place count bytes (Err (Channels has))
AreWavRecords wav place count bytes last (Err (NoChannel has)) =
    AreHeadedRecords wav place count bytes (Err (NoChannel has))
AreWavRecords wav place count bytes last (Err TooLong) = ⊥
AreWavRecords wav place count bytes last (Err TooWide) = ⊥

-- the records of a file of a format
abbrev pub IsRecordsResult : Form → ℕ → ℕ → List ℕ → Bool → Result (Option Records) HeadFault → Type 0
IsRecordsResult (lines decimals) place count bytes last records = records ≡ Ok (Some (to_end (Lines decimals)))
IsRecordsResult (table t) place count bytes last records = records ≡ csv_records t place bytes last
IsRecordsResult (wave wav) place count bytes last records = AreWavRecords wav place count bytes last records
IsRecordsResult (samples raw) place count bytes last records = records ≡ raw_records raw place count

-- the records of a file with these first bytes
abbrev pub TellsRecords : Form → ℕ → ℕ → FirstBytes → Result (Option Records) HeadFault → Type 0
TellsRecords f place count first records = IsRecordsResult f place count first.bytes.now first.is_last records

-- the records begin within these bytes
abbrev pub IsWithin : List ℕ → Result (Option Records) HeadFault → Type 0
IsWithin bytes records = IfOk records (λ o. IfSome o (λ b. b.start ≤ length bytes))

-- no more bytes are needed
abbrev pub IsTold : Result (Option Records) HeadFault → Type 0
IsTold records = IfOk records IsSome
