-- What is written to a file before, among and after the tokens.
use Rattle.std.specs.Prelude.{◌-◌, ◌%◌, ◌^◌, ◌==◌, ◌&&◌, ℕ, length, min, nat_lt, unwrap_or, if◌then◌else◌, List, [], ◌∷◌, Option, Some, None, map}
use Rattle.csv.specs.Writing.{row_text}
use Rattle.kpn_tokens.specs.declared.layouts.Layout.{Layout}
use Rattle.kpn_tokens.specs.declared.layouts.Layout.TheVariants.{Lines, Fields, Frames}
use Rattle.kpn_tokens.specs.declared.layouts.Sample.{Sample}
use Rattle.kpn_tokens.specs.Heads.{names_writer, wav_sample, wav_text_before}
use Rattle.hox_format.specs.declared.formats.Wav.{Wav}
use Rattle.hox_format.specs.declared.heads.FileHead.{FileHead}
use Rattle.hox_format.specs.Forms.{Form, lines, table, wave, samples, Table}

-- a single channel has adjacent samples
abbrev pub alone : Sample → Layout
alone sample = Frames (record { before = 0; sample = sample; after = 0 })

abbrev pub layout_of : Form → Layout
layout_of (lines decimals) = Lines decimals
layout_of (table t) = Fields (record { place = 0; separator = t.separator; decimals = t.decimals })
layout_of (wave wav) = alone (record (wav_sample wav.width) { clips = wav.clips })
layout_of (samples raw) = alone raw.sample

-- the row of names, if there is to be one
abbrev pub names_text : Table → List (List ℕ) → List ℕ
names_text t names = if t.has_header then row_text (names_writer t.separator) names else []

-- a WAV head states the number of channels in two bytes
abbrev pub channels_told : ℕ → ℕ
channels_told count = min count 65535

abbrev pub wave_text : Wav → ℕ → ℕ → Option ℕ → List ℕ
wave_text wav channels rate frames = wav_text_before frames channels wav.width (unwrap_or wav.rate rate)

-- what precedes the tokens of the channels of these names
abbrev pub head_text : Form → List (List ℕ) → ℕ → Option ℕ → List ℕ
head_text (lines decimals) names rate frames = []
head_text (table t) names rate frames = names_text t names
head_text (wave wav) names rate frames = wave_text wav (channels_told (length names)) rate frames
head_text (samples raw) names rate frames = []

-- what follows `size` bytes of tokens: if a head states that size, a byte 0 makes it even. It does not state
-- 2 ^ 32 - 1 or more
abbrev pub padding : ℕ → Option ℕ → List ℕ
padding size None = []
padding size (Some frames) = if (size % 2 == 1) && nat_lt size (2 ^ 32 - 1) then 0 ∷ [] else []

abbrev pub tail_text : Form → ℕ → Option ℕ → List ℕ
tail_text (lines decimals) size frames = []
tail_text (table t) size frames = []
tail_text (wave wav) size frames = padding size frames
tail_text (samples raw) size frames = []

-- what precedes the tokens of a file with this head
abbrev pub file_head_text : Form → FileHead → List ℕ
file_head_text f head = head_text f (map (λ name. name.now) head.names.now) head.rate head.frames
