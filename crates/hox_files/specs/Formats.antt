-- The formats of files, as the arguments CHANNEL=FORMAT give them.
use Rattle.std.specs.Prelude.{◌≡◌, ◌<◌, ◌==◌, ◌&&◌, ◌||◌, ℕ, Bool, if◌then◌else◌, codes, is_some, length, nat_lt, List, [], ◌∷◌, Option, Some, None, Ok, Err}
use Rattle.std.specs.List.{Contains, after_first, before_first, list_any, position_or_len}
use Rattle.std.specs.Option.{option_map_or}
use Rattle.std.specs.Str.{bytes_eq}
use Rattle.hox_format.specs.Forms.{Form, form_of_file, unsigned_form}
use Rattle.hox_format.specs.Saying.{Said, format_said, refused}
use Rattle.hox_files.specs.declared.formats.FormatStop.{FormatStop}
use Rattle.hox_files.specs.declared.formats.FormatStop.TheVariants.{Alone, Head, NoUse, Twice, Unknown, Unlike}
use Rattle.hox_format.specs.declared.parsing.FormatFault.{FormatFault}
use Rattle.hox_files.specs.declared.formats.Formats.{Formats}
use Rattle.hox_files.specs.Files.{texts_in}

abbrev pub is_equals : ℕ → Bool
is_equals b = b == 61

abbrev pub HasEquals : List ℕ → Type 0
HasEquals text = position_or_len is_equals text < length text

-- what stands before the first `=`
abbrev pub named_channel : List ℕ → List ℕ
named_channel text = before_first is_equals text

-- what stands after it
abbrev pub said_in : List ℕ → List ℕ
said_in text = after_first is_equals text

abbrev pub has_equals : List ℕ → Bool
has_equals text = nat_lt (position_or_len is_equals text) (length text)

-- the texts that give formats
abbrev pub format_texts : Formats → List (List ℕ)
format_texts formats = texts_in formats.texts.now

-- the names of the unsigned channels
abbrev pub unsigned_names : Formats → List (List ℕ)
unsigned_names formats = texts_in formats.unsigned.now

abbrev pub all_channels : List ℕ
all_channels = codes "all"

-- the channel is named, or all are
abbrev pub is_named : List (List ℕ) → List ℕ → Bool
is_named names channel = list_any (λ name. bytes_eq name channel || bytes_eq name all_channels) names

abbrev pub is_text_of : List ℕ → List ℕ → Bool
is_text_of channel text = has_equals text && bytes_eq (named_channel text) channel

-- the format in a text, if it is for a channel
abbrev pub format_in : List ℕ → List ℕ → Option (List ℕ)
format_in channel text = if is_text_of channel text then Some (said_in text) else None

-- the format in the first text for a channel
abbrev pub format_text : List ℕ → List (List ℕ) → Option (List ℕ)
format_text channel [] = None
format_text channel (text ∷ texts) = if is_text_of channel text then Some (said_in text) else format_text channel texts

-- a text is one of these and gives this format
abbrev pub IsFormatAmong : List (List ℕ) → List ℕ → Type 0
IsFormatAmong texts format = (text : List ℕ) × Contains texts text × (format ≡ said_in text)

-- a later text is for the same channel
abbrev pub is_named_again : List ℕ → List (List ℕ) → Bool
is_named_again text texts = is_some (format_text (named_channel text) texts)

-- the first channel that a later text repeats
abbrev pub named_twice : List (List ℕ) → Option (List ℕ)
named_twice [] = None
named_twice (text ∷ texts) = if is_named_again text texts then Some (named_channel text) else named_twice texts

-- the format for a channel: the one given for it, or for all, or else the default of the file's name
abbrev pub said_of_all : List (List ℕ) → List ℕ → Said
said_of_all texts file = option_map_or format_said (format_text all_channels texts) (Ok (form_of_file file))

abbrev pub said_for : List (List ℕ) → List ℕ → List ℕ → Said
said_for texts channel file = option_map_or format_said (format_text channel texts) (said_of_all texts file)

abbrev pub marked : Bool → Form → Form
marked is_unsigned form = if is_unsigned then unsigned_form form else form

-- the format of a channel's file, by these texts and the names of the unsigned channels
pub record IsForm (texts unsigned : List (List ℕ)) (channel file : List ℕ) (form : Form) : Type 0 where
  pub base : Form
  pub said : said_for texts channel file ≡ Ok base
  pub marks : form ≡ marked (is_named unsigned channel) base

-- the format of a channel's file, by these formats
abbrev pub IsFormBy : Formats → List ℕ → List ℕ → Form → Type 0
IsFormBy formats channel file form = IsForm (format_texts formats) (unsigned_names formats) channel file form

-- what a text says is no format, with this fault
abbrev pub SaysNoFormat : List ℕ → FormatFault → Type 0
SaysNoFormat text fault = format_said (said_in text) ≡ Err (refused fault)

-- a text names no format
abbrev pub IsNoFormat : List (List ℕ) → FormatStop → Type 0
IsNoFormat texts (Unknown fault) = (text : List ℕ) × Contains texts text × SaysNoFormat text fault
IsNoFormat texts (NoUse channel) = ⊥
IsNoFormat texts (Twice channel) = ⊥
IsNoFormat texts (Head file fault) = ⊥
IsNoFormat texts (Alone file) = ⊥
IsNoFormat texts (Unlike file channel) = ⊥
