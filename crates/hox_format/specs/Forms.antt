-- Formats, as contracts see them.
use Rattle.std.specs.Prelude.{◌-◌, ◌&&◌, ℕ, Bool, true, false, bytes_eq, codes, drop, length, map, nat_le, if◌then◌else◌, List, Option, None, option_map}
use Rattle.std.specs.Char.{to_ascii_lowercase}
use Rattle.kpn_tokens.specs.declared.layouts.Decimals.{Decimals}
use Rattle.kpn_tokens.specs.declared.layouts.Separator.{Separator}
use Rattle.kpn_tokens.specs.declared.layouts.Separator.TheVariants.{Comma}
use Rattle.kpn_tokens.specs.declared.layouts.Width.TheVariants.{Two}
use Rattle.hox_format.specs.declared.formats.Csv.{Csv as CsvFile}
use Rattle.hox_format.specs.declared.formats.Format.{Format}
use Rattle.hox_format.specs.declared.formats.Format.TheVariants.{Text, Csv, Wav, Raw}
use Rattle.hox_format.specs.declared.formats.Raw.{Raw as RawFile}
use Rattle.hox_format.specs.declared.formats.Wav.{Wav as WavFile}
use Rattle.hox_format.specs.declared.formats.Which.{Which}
use Rattle.hox_format.specs.declared.formats.Which.TheVariants.{Place, Name}

-- the chosen column, by its place or name
pub data Chosen : Type 0 where
  at : ℕ → Chosen
  called : List ℕ → Chosen

abbrev pub chosen : Which → Chosen
chosen (Place place) = at place
chosen (Name name) = called name.now

pub record Table : Type 0 where
  pub separator : Separator
  pub decimals : Decimals
  pub has_header : Bool
  pub column : Option Chosen

abbrev pub table_of : CsvFile → Table
table_of csv =
    record {
      separator = csv.separator;
      decimals = csv.decimals;
      has_header = csv.has_header;
      column = option_map chosen csv.column;
    }

pub data Form : Type 0 where
  lines : Decimals → Form
  table : Table → Form
  wave : WavFile → Form
  samples : RawFile → Form

abbrev pub form : Format → Form
form (Text decimals) = lines decimals
form (Csv csv) = table (table_of csv)
form (Wav wav) = wave wav
form (Raw raw) = samples raw

-- whole signed numbers
abbrev pub whole : Decimals
whole = record { digits = 0; is_unsigned = false }

-- formats named without keys
abbrev pub plain_lines : Form
plain_lines = lines whole

abbrev pub plain_table : Form
plain_table = table (record { separator = Comma; decimals = whole; has_header = false; column = None })

abbrev pub plain_wave : Form
plain_wave = wave (record { channel = None; width = Two; rate = None; clips = false })

-- the last four bytes, in small letters
abbrev pub small_end : List ℕ → List ℕ
small_end file = map to_ascii_lowercase (drop (length file - 4) file)

-- the name ends in `.wav`, in letters of any case
abbrev pub is_wav_name : List ℕ → Bool
is_wav_name file = nat_le 4 (length file) && bytes_eq (small_end file) (codes ".wav")

abbrev pub form_of_file : List ℕ → Form
form_of_file file = if is_wav_name file then plain_wave else plain_lines

-- words written unsigned
abbrev pub unsigned : Decimals → Decimals
unsigned decimals = record decimals { is_unsigned = true }

abbrev pub unsigned_table : Table → Table
unsigned_table t = record t { decimals = unsigned t.decimals }

abbrev pub unsigned_form : Form → Form
unsigned_form (lines decimals) = lines (unsigned decimals)
unsigned_form (table t) = table (unsigned_table t)
unsigned_form (wave wav) = wave wav
unsigned_form (samples raw) = samples raw
