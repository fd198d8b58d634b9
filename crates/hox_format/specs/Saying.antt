-- Parsing a format: its name, then keys in turn, each of which changes it.
use Rattle.std.specs.Prelude.{◌-◌, ◌^◌, ◌==◌, ◌&&◌, ℕ, Bool, true, false, bytes_eq, codes, length, nat_le, nat_lt, option_map, if◌then◌else◌, List, [], ◌∷◌, Option, Some, None, Result, Ok, Err}
use Rattle.std.specs.Borrow.{Bor}
use Rattle.std.specs.Char.{is_ascii_digit}
use Rattle.std.specs.List.{after_first, before_first, find, list_all, list_any, position_or_len, slice_split}
use Rattle.std.specs.Str.Parse.{digits_value}
use Rattle.kpn_tokens.specs.declared.layouts.Coding.{Coding}
use Rattle.kpn_tokens.specs.declared.layouts.Coding.TheVariants.{Signed, Unsigned}
use Rattle.kpn_tokens.specs.declared.layouts.Decimals.{Decimals}
use Rattle.kpn_tokens.specs.declared.layouts.Endian.{Endian}
use Rattle.kpn_tokens.specs.declared.layouts.Endian.TheVariants.{Little, Big}
use Rattle.kpn_tokens.specs.declared.layouts.Sample.{Sample}
use Rattle.kpn_tokens.specs.declared.layouts.Separator.{Separator}
use Rattle.kpn_tokens.specs.declared.layouts.Separator.TheVariants.{Comma, Semicolon, Tab}
use Rattle.kpn_tokens.specs.declared.layouts.Width.{Width}
use Rattle.kpn_tokens.specs.declared.layouts.Width.TheVariants.{One, Two, Three, Four, Eight}
use Rattle.hox_format.specs.declared.formats.Format.{Format}
use Rattle.hox_format.specs.declared.formats.Raw.{Raw}
use Rattle.hox_format.specs.declared.formats.Wav.{Wav}
use Rattle.hox_format.specs.declared.parsing.FormatFault.{FormatFault}
use Rattle.hox_format.specs.declared.parsing.FormatFault.TheVariants.{Name, Key, Value, Twice}
use Rattle.hox_format.specs.Forms.{Chosen, at, called, Form, lines, table, wave, samples, Table, form, plain_lines, plain_table, plain_wave, unsigned, unsigned_table}

-- a fault, as contracts see it
pub data Refused : Type 0 where
  no_name : List ℕ → Refused
  no_key : List ℕ → Refused
  no_value : List ℕ → List ℕ → Refused
  given_twice : List ℕ → Refused

abbrev pub refused : FormatFault → Refused
refused (Name name) = no_name name.now
refused (Key key) = no_key key.now
refused (Value key value) = no_value key.now value.now
refused (Twice key) = given_twice key.now

abbrev pub Said : Type 0
Said = Result Form Refused

abbrev pub seen : Result Format FormatFault → Said
seen (Ok format) = Ok (form format)
seen (Err fault) = Err (refused fault)

-- the parts of a text between its commas
abbrev pub is_comma : ℕ → Bool
is_comma b = b == 44

abbrev pub pieces : List ℕ → List (List ℕ)
pieces text = slice_split is_comma text

-- those after the first comma, if there is one
abbrev pub later_pieces : Option (List ℕ) → List (List ℕ)
later_pieces None = []
later_pieces (Some text) = pieces text

-- the pieces of a text that the code has, if there is one
abbrev pub later_pieces_of : Option (Bor (List ℕ)) → List (List ℕ)
later_pieces_of text = later_pieces (option_map (λ t. t.now) text)

-- a number in digits, at most `most`; one from 1 on; and such a one counted from 0
abbrev pub is_number : List ℕ → Bool
is_number text = nat_lt 0 (length text) && list_all is_ascii_digit text

-- a number in digits, at most `most`
abbrev pub is_number_upto : ℕ → List ℕ → Bool
is_number_upto most text = is_number text && nat_le (digits_value 10 text) most

abbrev pub number_said : ℕ → List ℕ → Option ℕ
number_said most text = if is_number_upto most text then Some (digits_value 10 text) else None

abbrev pub from_one : Option ℕ → Option ℕ
from_one None = None
from_one (Some n) = if n == 0 then None else Some n

abbrev pub count_said : ℕ → List ℕ → Option ℕ
count_said most text = from_one (number_said most text)

abbrev pub place_said : ℕ → List ℕ → Option ℕ
place_said most text = option_map (λ n. n - 1) (count_said most text)

-- samples by their names, little-endian by default
abbrev pub plain_sample : Width → Coding → Endian → Sample
plain_sample width coding endian = record { width = width; coding = coding; endian = endian; clips = false }

-- samples of a width in two's complement, and unsigned ones, little-endian or big-endian
abbrev pub little_signed : Width → Sample
little_signed width = plain_sample width Signed Little

abbrev pub big_signed : Width → Sample
big_signed width = plain_sample width Signed Big

abbrev pub little_unsigned : Width → Sample
little_unsigned width = plain_sample width Unsigned Little

abbrev pub big_unsigned : Width → Sample
big_unsigned width = plain_sample width Unsigned Big

abbrev pub named_samples : List (List ℕ × Sample)
named_samples =
    (codes "s8", little_signed One) ∷ (codes "u8", little_unsigned One)
    ∷ (codes "s16", little_signed Two) ∷ (codes "s16le", little_signed Two) ∷ (codes "s16be", big_signed Two)
    ∷ (codes "s24", little_signed Three) ∷ (codes "s24le", little_signed Three) ∷ (codes "s24be", big_signed Three)
    ∷ (codes "s32", little_signed Four) ∷ (codes "s32le", little_signed Four) ∷ (codes "s32be", big_signed Four)
    ∷ (codes "s64", little_signed Eight) ∷ (codes "s64le", little_signed Eight) ∷ (codes "s64be", big_signed Eight)
    ∷ (codes "u64", little_unsigned Eight) ∷ (codes "u64le", little_unsigned Eight)
    ∷ (codes "u64be", big_unsigned Eight) ∷ []

abbrev pub sample_named : List ℕ → Option Sample
sample_named name = option_map (λ row. row.1) (find (λ row. bytes_eq name row.0) named_samples)

abbrev pub plain_samples : Sample → Form
plain_samples sample = samples (record { sample = sample; channel = None; channels = None })

-- the format of a name
abbrev pub form_named : List ℕ → Option Form
form_named name =
    if bytes_eq name (codes "text") then Some plain_lines else if bytes_eq name (codes "csv") then Some plain_table
    else if bytes_eq name (codes "wav") then Some plain_wave else option_map plain_samples (sample_named name)

-- the keys without a value, and what they change
abbrev pub text_flag : Decimals → List ℕ → Option Form
text_flag decimals key = if bytes_eq key (codes "unsigned") then Some (lines (unsigned decimals)) else None

abbrev pub csv_flag : Table → List ℕ → Option Form
csv_flag t key =
    if bytes_eq key (codes "header") then Some (table (record t { has_header = true }))
    else if bytes_eq key (codes "unsigned") then Some (table (unsigned_table t)) else None

abbrev pub wav_flag : Wav → List ℕ → Option Form
wav_flag wav key = if bytes_eq key (codes "clip") then Some (wave (record wav { clips = true })) else None

-- words out of range are clipped
abbrev pub with_clipping : Raw → Raw
with_clipping raw = record raw { sample = record raw.sample { clips = true } }

abbrev pub raw_flag : Raw → List ℕ → Option Form
raw_flag raw key = if bytes_eq key (codes "clip") then Some (samples (with_clipping raw)) else None

abbrev pub flagged : Form → List ℕ → Option Form
flagged (lines decimals) key = text_flag decimals key
flagged (table t) key = csv_flag t key
flagged (wave wav) key = wav_flag wav key
flagged (samples raw) key = raw_flag raw key

abbrev pub if_key : List ℕ → Option Form → Said
if_key key None = Err (no_key key)
if_key key (Some f) = Ok f

abbrev pub flag_said : Form → List ℕ → Said
flag_said f key = if_key key (flagged f key)

-- the keys with a value, the values they take, and what they change
abbrev pub taken : List ℕ → List ℕ → Option Form → Said
taken key value None = Err (no_value key value)
taken key value (Some f) = Ok f

abbrev pub digits_said : Decimals → List ℕ → Option Decimals
digits_said decimals value = option_map (λ n. record decimals { digits = n }) (number_said 19 value)

-- lines with so many digits
abbrev pub lines_said : Decimals → List ℕ → Option Form
lines_said decimals value = option_map lines (digits_said decimals value)

abbrev pub text_value : Decimals → List ℕ → List ℕ → Said
text_value decimals key value =
    if bytes_eq key (codes "digits") then taken key value (lines_said decimals value) else Err (no_key key)

-- digits give a place from 1 on; other texts are names
abbrev pub chosen_said : List ℕ → Option Chosen
chosen_said value = if is_number value then option_map at (place_said (2 ^ 64 - 1) value) else Some (called value)

-- a column is named, unless digits give its place from 1 on
abbrev pub column_said : List ℕ → Option Chosen
column_said value = if length value == 0 then None else chosen_said value

-- a column with a name implies a row of names
abbrev pub with_column : Table → Chosen → Form
with_column t (at place) = table (record t { column = Some (at place) })
with_column t (called name) = table (record t { column = Some (called name); has_header = true })

-- a tab, if the text says it
abbrev pub tab_said : List ℕ → Option Separator
tab_said value = if bytes_eq value (codes "tab") then Some Tab else if bytes_eq value (9 ∷ []) then Some Tab else None

abbrev pub separator_said : List ℕ → Option Separator
separator_said value =
    if bytes_eq value (codes "comma") then Some Comma
    else if bytes_eq value (codes "semicolon") then Some Semicolon
    else if bytes_eq value (codes ";") then Some Semicolon
    else tab_said value

abbrev pub with_separator : Table → Separator → Form
with_separator t separator = table (record t { separator = separator })

abbrev pub with_decimals : Table → Decimals → Form
with_decimals t decimals = table (record t { decimals = decimals })

-- the table with so many digits
abbrev pub csv_digits_said : Table → List ℕ → Option Form
csv_digits_said t value = option_map (with_decimals t) (digits_said t.decimals value)

abbrev pub csv_value : Table → List ℕ → List ℕ → Said
csv_value t key value =
    if bytes_eq key (codes "column") then taken key value (option_map (with_column t) (column_said value))
    else if bytes_eq key (codes "delimiter") then taken key value (option_map (with_separator t) (separator_said value))
    else if bytes_eq key (codes "digits") then taken key value (csv_digits_said t value) else Err (no_key key)

-- a width of more than 16 bits
abbrev pub greater_width_said : List ℕ → Option Width
greater_width_said value =
    if bytes_eq value (codes "24") then Some Three else if bytes_eq value (codes "32") then Some Four else None

abbrev pub width_said : List ℕ → Option Width
width_said value =
    if bytes_eq value (codes "8") then Some One else if bytes_eq value (codes "16") then Some Two
    else greater_width_said value

-- the file with this channel, width or rate, if the text says one
abbrev pub wav_channel_said : Wav → List ℕ → Option Form
wav_channel_said wav value =
    option_map (λ channel. wave (record wav { channel = Some channel })) (place_said 65535 value)

abbrev pub wav_width_said : Wav → List ℕ → Option Form
wav_width_said wav value = option_map (λ width. wave (record wav { width = width })) (width_said value)

abbrev pub wav_rate_said : Wav → List ℕ → Option Form
wav_rate_said wav value = option_map (λ rate. wave (record wav { rate = Some rate })) (count_said (2 ^ 32 - 1) value)

abbrev pub wav_value : Wav → List ℕ → List ℕ → Said
wav_value wav key value =
    if bytes_eq key (codes "channel") then taken key value (wav_channel_said wav value)
    else if bytes_eq key (codes "bits") then taken key value (wav_width_said wav value)
    else if bytes_eq key (codes "rate") then taken key value (wav_rate_said wav value)
    else Err (no_key key)

-- the chosen channel is one of the channels, if both are stated
abbrev pub is_one_of : Option ℕ → Option ℕ → Bool
is_one_of (Some channel) (Some channels) = nat_lt channel channels
is_one_of (Some channel) None = true
is_one_of None channels = true

-- samples with this channel, or these channels, if there is a number
abbrev pub set_channel : Raw → Option ℕ → Option Raw
set_channel raw channel = option_map (λ n. record raw { channel = Some n }) channel

abbrev pub set_channels : Raw → Option ℕ → Option Raw
set_channels raw channels = option_map (λ n. record raw { channels = Some n }) channels

abbrev pub with_channel : Raw → Option ℕ → Option Raw
with_channel raw channel = if is_one_of channel raw.channels then set_channel raw channel else None

abbrev pub with_channels : Raw → Option ℕ → Option Raw
with_channels raw channels = if is_one_of raw.channel channels then set_channels raw channels else None

-- the samples with this channel, or these channels, if the text says a number
abbrev pub raw_channel_said : Raw → List ℕ → Option Form
raw_channel_said raw value = option_map samples (with_channel raw (place_said 65535 value))

abbrev pub raw_channels_said : Raw → List ℕ → Option Form
raw_channels_said raw value = option_map samples (with_channels raw (count_said 65535 value))

abbrev pub raw_value : Raw → List ℕ → List ℕ → Said
raw_value raw key value =
    if bytes_eq key (codes "channel") then taken key value (raw_channel_said raw value)
    else if bytes_eq key (codes "channels") then taken key value (raw_channels_said raw value) else Err (no_key key)

abbrev pub value_said : Form → List ℕ → List ℕ → Said
value_said (lines decimals) key value = text_value decimals key value
value_said (table t) key value = csv_value t key value
value_said (wave wav) key value = wav_value wav key value
value_said (samples raw) key value = raw_value raw key value

-- a setting is a key, or a key and its value after the first `=`
abbrev pub is_equals : ℕ → Bool
is_equals b = b == 61

-- a setting has a value
abbrev pub has_value : List ℕ → Bool
has_value setting = nat_lt (position_or_len is_equals setting) (length setting)

abbrev pub setting_said : Form → List ℕ → Said
setting_said f setting =
    if has_value setting then value_said f (before_first is_equals setting) (after_first is_equals setting)
    else flag_said f setting

-- settings in turn, up to the first fault
abbrev pub with_setting : Said → List ℕ → Said
with_setting (Ok f) setting = setting_said f setting
with_setting (Err fault) setting = Err fault

abbrev pub settings_said : Said → List (List ℕ) → Said
settings_said said [] = said
settings_said said (setting ∷ later) = settings_said (with_setting said setting) later

-- a format by its name
abbrev pub name_said : List ℕ → Option Form → Said
name_said name None = Err (no_name name)
name_said name (Some f) = Ok f

-- the key of a setting, and the first key that a later setting repeats
abbrev pub key_of : List ℕ → List ℕ
key_of setting = before_first is_equals setting

abbrev pub has_key : List ℕ → List ℕ → Bool
has_key key setting = bytes_eq (key_of setting) key

-- a later setting has the same key
abbrev pub is_repeated : List ℕ → List (List ℕ) → Bool
is_repeated setting later = list_any (has_key (key_of setting)) later

abbrev pub key_twice : List (List ℕ) → Option (List ℕ)
key_twice [] = None
key_twice (setting ∷ later) = if is_repeated setting later then Some (key_of setting) else key_twice later

-- no key is given twice
abbrev pub unless_twice : Option (List ℕ) → Form → Said
unless_twice None f = Ok f
unless_twice (Some key) f = Err (given_twice key)

abbrev pub each_once : List (List ℕ) → Said → Said
each_once settings (Ok f) = unless_twice (key_twice settings) f
each_once settings (Err fault) = Err fault

abbrev pub pieces_said : List (List ℕ) → Said
pieces_said [] = Err (no_name [])
pieces_said (name ∷ settings) = each_once settings (settings_said (name_said name (form_named name)) settings)

abbrev pub format_said : List ℕ → Said
format_said text = pieces_said (pieces text)
