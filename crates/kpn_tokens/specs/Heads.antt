-- The head of a file: that of a WAV file, or a row of names.
use Rattle.std.specs.Prelude.{◌≡◌, ◌<◌, ◌≤◌, ◌+◌, ◌-◌, ◌*◌, ◌%◌, ◌^◌, ◌==◌, ◌&&◌, ◌||◌, ℕ, Bool, true, false, bytes_eq, codes, drop, length, min, nat_le, position, take, if◌then◌else◌, List, [], ◌∷◌, Option, Some, None, Result, Ok, Err, map, ◌⊎◌}
use Rattle.std.specs.Borrow.{Bor}
use Rattle.std.specs.List.{flat_map}
use Rattle.std.specs.Str.{is_utf8, trim}
use Rattle.byteorder.specs.Endian.{little_bytes, little_number}
use Rattle.csv.specs.Writing.{default_writer, with_delimiter, row_text}
use Rattle.csv.specs.declared.writer.WriterBuilder.{WriterBuilder}
use Rattle.kpn_tokens.specs.declared.heads.HeadNumber.{HeadNumber}
use Rattle.kpn_tokens.specs.declared.heads.HeadNumber.TheVariants.{Short, Long}
use Rattle.kpn_tokens.specs.declared.heads.WavHead.{WavHead}
use Rattle.kpn_tokens.specs.declared.heads.WavFault.{WavFault}
use Rattle.kpn_tokens.specs.declared.heads.WavFault.TheVariants.{NotWav, NotPcm, NoFormat, CutShort, TooLong}
use Rattle.kpn_tokens.specs.declared.layouts.Coding.{Coding}
use Rattle.kpn_tokens.specs.declared.layouts.Coding.TheVariants.{Signed, Offset}
use Rattle.kpn_tokens.specs.declared.layouts.Endian.TheVariants.{Little}
use Rattle.kpn_tokens.specs.declared.layouts.Frame.{Frame}
use Rattle.kpn_tokens.specs.declared.layouts.Sample.{Sample}
use Rattle.kpn_tokens.specs.declared.layouts.Separator.{Separator}
use Rattle.kpn_tokens.specs.declared.layouts.Width.{Width}
use Rattle.kpn_tokens.specs.declared.layouts.Width.TheVariants.{One, Two, Three, Four, Eight}
use Rattle.kpn_tokens.specs.declared.layouts.RecordFault.{RecordFault}
use Rattle.kpn_tokens.specs.declared.layouts.RecordFault.TheVariants.{NoField}
use Rattle.kpn_tokens.specs.Rows.{separator_byte}
use Rattle.kpn_tokens.specs.Samples.{bytes_in, frame_at}

-- a little-endian number of n bytes; and whether these letters are at a place
abbrev pub number_at : ℕ → ℕ → List ℕ → ℕ
number_at n place bytes = little_number n (drop place bytes)

abbrev pub has_letters : List ℕ → ℕ → List ℕ → Bool
has_letters letters place bytes = bytes_eq (take 4 (drop place bytes)) letters

-- a chunk: four letters, its number of bytes, and these, padded to even
abbrev pub chunk_size : ℕ → List ℕ → ℕ
chunk_size place bytes = number_at 4 (place + 4) bytes

abbrev pub after_chunk : ℕ → List ℕ → ℕ
after_chunk place bytes = place + 8 + chunk_size place bytes + chunk_size place bytes % 2

-- a chunk begins at the place, with these letters or with others
abbrev pub IsChunkAt : List ℕ → ℕ → Type 0
IsChunkAt bytes place = place + 8 ≤ length bytes

abbrev pub HasLetters : List ℕ → List ℕ → ℕ → Type 0
HasLetters bytes letters place = has_letters letters place bytes ≡ true

abbrev pub LacksLetters : List ℕ → List ℕ → ℕ → Type 0
LacksLetters bytes letters place = has_letters letters place bytes ≡ false

-- from one place on, the first chunk with these letters is at another
pub data Finds (bytes letters : List ℕ) : ℕ → ℕ → Type 0 where
  here : {place : ℕ} → IsChunkAt bytes place → HasLetters bytes letters place → Finds bytes letters place place
  later : {place found : ℕ}
      → IsChunkAt bytes place → LacksLetters bytes letters place → Finds bytes letters (after_chunk place bytes) found
      → Finds bytes letters place found

-- no chunk has these letters
abbrev pub HasNoChunk : List ℕ → List ℕ → Type 0
HasNoChunk bytes letters = (found : ℕ) → Finds bytes letters 12 found → ⊥

-- the first chunk with these letters is here, and its number of bytes is there
abbrev pub HasChunkAt : List ℕ → List ℕ → ℕ → Type 0
HasChunkAt bytes letters found = Finds bytes letters 12 found × (found + 8 ≤ length bytes)

-- a WAV file: its chunks come after twelve bytes; one has the format, and one the samples
abbrev pub is_wav : List ℕ → Bool
is_wav bytes = has_letters (codes "RIFF") 0 bytes && has_letters (codes "WAVE") 8 bytes

abbrev pub FormatAt : List ℕ → ℕ → Type 0
FormatAt bytes place = Finds bytes (codes "fmt ") 12 place

abbrev pub SamplesAt : List ℕ → ℕ → Type 0
SamplesAt bytes place = Finds bytes (codes "data") 12 place

-- the number of the format, and whether the rest of an extensible one says PCM
abbrev pub format_number : ℕ → List ℕ → ℕ
format_number format bytes = number_at 2 (format + 8) bytes

abbrev pub extends_to_pcm : ℕ → List ℕ → Bool
extends_to_pcm format bytes = nat_le 26 (chunk_size format bytes) && (number_at 2 (format + 32) bytes == 1)

-- the format is PCM, or its extensible form
abbrev pub is_pcm : ℕ → List ℕ → Bool
is_pcm format bytes =
    (format_number format bytes == 1) || ((format_number format bytes == 0xFFFE) && extends_to_pcm format bytes)

-- the format has room for all it says, and is PCM
abbrev pub tells_pcm : ℕ → List ℕ → Bool
tells_pcm format bytes = nat_le 16 (chunk_size format bytes) && is_pcm format bytes

-- the width of samples of more than 16 bits
abbrev pub greater_width_of : ℕ → Option Width
greater_width_of bits = if bits == 24 then Some Three else if bits == 32 then Some Four else None

abbrev pub width_of : ℕ → Option Width
width_of bits = if bits == 8 then Some One else if bits == 16 then Some Two else greater_width_of bits

-- a frame has exactly one sample of this width for each channel
abbrev pub fills_frame : ℕ → List ℕ → Width → Bool
fills_frame format bytes width = number_at 2 (format + 10) bytes * bytes_in width == number_at 2 (format + 20) bytes

-- the width, if a frame has exactly one sample of it for each channel
abbrev pub if_filled : ℕ → List ℕ → Option Width → Option Width
if_filled format bytes None = None
if_filled format bytes (Some width) = if fills_frame format bytes width then Some width else None

-- the width for the bits of a sample
abbrev pub width_for_bits : ℕ → List ℕ → Option Width
width_for_bits format bytes = if_filled format bytes (width_of (number_at 2 (format + 22) bytes))

-- the sample width of a format, if it is PCM
abbrev pub width_told : ℕ → List ℕ → Option Width
width_told format bytes = if tells_pcm format bytes then width_for_bits format bytes else None

-- samples of 8 bits are offset, wider ones are two's complement
abbrev pub wav_coding : Width → Coding
wav_coding One = Offset
wav_coding Two = Signed
wav_coding Three = Signed
wav_coding Four = Signed
wav_coding Eight = Signed

abbrev pub wav_sample : Width → Sample
wav_sample width = record { width = width; coding = wav_coding width; endian = Little; clips = false }

-- how many bytes the samples have; `None`: to the end of the file
abbrev pub size_told : ℕ → Option ℕ
size_told n = if (n == 0) || (n == 0xFFFFFFFF) then None else Some n

-- the head of a WAV file: the format comes before the samples, and these begin near enough
pub record IsWavHead (bytes : List ℕ) (head : WavHead) : Type 0 where
  pub wav : is_wav bytes ≡ true
  pub format : ℕ
  pub format_found : FormatAt bytes format
  pub samples : ℕ
  pub samples_found : SamplesAt bytes samples
  pub order : format < samples
  pub near : samples + 8 ≤ 65536
  pub width : Width
  pub told : width_told format bytes ≡ Some width
  pub sample : head.sample ≡ wav_sample width
  pub channels : head.channels ≡ number_at 2 (format + 10) bytes
  pub rate : head.rate ≡ number_at 4 (format + 12) bytes
  pub start : head.start ≡ samples + 8
  pub size : head.size ≡ size_told (chunk_size samples bytes)

-- no format comes before the samples
abbrev pub HasNoFormatBefore : List ℕ → ℕ → Type 0
HasNoFormatBefore bytes samples = (format : ℕ) → FormatAt bytes format → samples ≤ format

-- why there is no head: the file does not begin as a WAV file; another format, or none before the samples; these do
-- not begin, and no more bytes come; or they begin too late
abbrev pub IsWavFault : List ℕ → Bool → WavFault → Type 0
IsWavFault bytes last NotWav = is_wav bytes ≡ false
IsWavFault bytes last NotPcm = (format : ℕ) × FormatAt bytes format × (width_told format bytes ≡ None)
IsWavFault bytes last NoFormat = (samples : ℕ) × SamplesAt bytes samples × HasNoFormatBefore bytes samples
IsWavFault bytes last CutShort = (last ≡ true) × (length bytes ≤ 65536) × ((samples : ℕ) → SamplesAt bytes samples → ⊥)
IsWavFault bytes last TooLong = (65536 < length bytes) × ((samples : ℕ) → SamplesAt bytes samples → 65536 < samples + 8)

-- no head yet: more bytes come
abbrev pub IsWavWanting : List ℕ → Bool → Type 0
IsWavWanting bytes last = (last ≡ false) × (length bytes ≤ 65536) × ((samples : ℕ) → SamplesAt bytes samples → ⊥)

-- with so many bytes at hand, and no samples found, more bytes are wanted; or why none are
abbrev pub WantsMore : ℕ → Bool → Option WavHead → Type 0
WantsMore count last head = (head ≡ None) × (last ≡ false) × (count ≤ 65536)

abbrev pub WantsNoMore : ℕ → Bool → WavFault → Type 0
WantsNoMore count last fault =
    ((fault ≡ CutShort) × (last ≡ true) × (count ≤ 65536)) ⊎ ((fault ≡ TooLong) × (65536 < count))

abbrev pub IsWavResult : List ℕ → Bool → Result (Option WavHead) WavFault → Type 0
IsWavResult bytes last (Ok (Some head)) = IsWavHead bytes head
IsWavResult bytes last (Ok None) = IsWavWanting bytes last
IsWavResult bytes last (Err fault) = IsWavFault bytes last fault

-- the frames of a channel: what is before its sample, and after it
abbrev pub IsFrameOf : WavHead → ℕ → Frame → Type 0
IsFrameOf head channel frame =
    (channel < head.channels) × (frame ≡ frame_at head.sample head.channels channel)

-- a frame of all channels has more than 65535 bytes
abbrev pub HasLongFrames : WavHead → Type 0
HasLongFrames head = 2 ^ 16 ≤ head.channels * bytes_in head.sample.width

-- how many bytes the frames have; at most 2 ^ 32 - 1, also for an unknown number
abbrev pub body_size : Option ℕ → ℕ → ℕ
body_size None block = 2 ^ 32 - 1
body_size (Some frames) block = min (frames * block) (2 ^ 32 - 1)

-- a number as little-endian bytes; and four letters as a number
abbrev pub number_bytes : HeadNumber → List ℕ
number_bytes (Short n) = little_bytes 2 n
number_bytes (Long n) = little_bytes 4 n

abbrev pub letters : List ℕ → HeadNumber
letters text = Long (little_number 4 text)

-- how many bytes follow the first two numbers, at most 2 ^ 32 - 1
abbrev pub size_after : ℕ → ℕ
size_after size = min (size + size % 2 + 36) (2 ^ 32 - 1)

-- the numbers from those of a frame on, and from those of the format on
abbrev pub frame_numbers : ℕ → ℕ → ℕ → ℕ → List HeadNumber
frame_numbers channels width rate size =
    Long (rate * (channels * width) % 2 ^ 32) ∷ Short (channels * width % 2 ^ 16) ∷ Short (8 * width)
    ∷ letters (codes "data") ∷ Long size ∷ []

abbrev pub format_numbers : ℕ → ℕ → ℕ → ℕ → List HeadNumber
format_numbers channels width rate size =
    letters (codes "fmt ") ∷ Long 16 ∷ Short 1 ∷ Short channels ∷ Long rate ∷ frame_numbers channels width rate size

-- the head of a WAV file with `size` bytes of samples
abbrev pub wav_numbers : ℕ → ℕ → ℕ → ℕ → List HeadNumber
wav_numbers channels width rate size =
    letters (codes "RIFF") ∷ Long (size_after size) ∷ letters (codes "WAVE") ∷ format_numbers channels width rate size

abbrev pub wav_text : ℕ → ℕ → ℕ → ℕ → List ℕ
wav_text channels width rate size = flat_map number_bytes (wav_numbers channels width rate size)

-- the head of a WAV file with this many frames after it
abbrev pub wav_text_before : Option ℕ → ℕ → Width → ℕ → List ℕ
wav_text_before frames channels width rate =
    wav_text channels (bytes_in width) rate (body_size frames (channels * bytes_in width))

-- a field of a row of names
abbrev pub is_name : List ℕ → List ℕ → Bool
is_name name field = is_utf8 field && bytes_eq (trim field) name

abbrev pub place_found : Option ℕ → Result ℕ RecordFault
place_found None = Err NoField
place_found (Some place) = Ok place

-- the place of the column with this name in a row
abbrev pub column_in : List ℕ → Result (Option (List (List ℕ))) RecordFault → Result ℕ RecordFault
column_in name (Err fault) = Err fault
column_in name (Ok None) = Err NoField
column_in name (Ok (Some row)) = place_found (position (is_name name) row)

-- the writer of a row of names
abbrev pub names_writer : Separator → WriterBuilder
names_writer separator = with_delimiter default_writer (separator_byte separator)

-- a row of these names
abbrev pub names_row_text : Separator → List (Bor (List ℕ)) → List ℕ
names_row_text separator names = row_text (names_writer separator) (map (λ name. name.now) names)
