-- Several channels in one file.
use Rattle.std.specs.Prelude.{◌==◌, ◌&&◌, ℕ, Bool, true, is_none, if◌then◌else◌, Option, Some, None}
use Rattle.kpn_tokens.specs.declared.layouts.Decimals.{Decimals}
use Rattle.kpn_tokens.specs.declared.layouts.Separator.{Separator}
use Rattle.kpn_tokens.specs.declared.tables.Table.TheVariants.{Rows, Samples}
use Rattle.kpn_tokens.specs.Heads.{wav_sample}
use Rattle.hox_format.specs.declared.formats.Raw.{Raw}
use Rattle.hox_format.specs.declared.formats.Wav.{Wav as WavFile}
use Rattle.hox_format.specs.declared.tables.Head.TheVariants.{Nothing, Names, Wav}
use Rattle.hox_format.specs.declared.tables.Shared.{Shared}
use Rattle.hox_format.specs.Forms.{Form, lines, table, wave, samples, whole}

-- what channels of one file share
abbrev pub shared_rows : Separator → Bool → Shared
shared_rows separator has_header = record { table = Rows separator; head = if has_header then Names else Nothing }

abbrev pub shared_wave : WavFile → Shared
shared_wave wav = record { table = Samples (record (wav_sample wav.width) { clips = wav.clips }); head = Wav wav.rate }

abbrev pub shared_samples : Raw → Shared
shared_samples raw = record { table = Samples raw.sample; head = Nothing }

-- as many channels as stated, if any number is
abbrev pub is_so_many : Option ℕ → ℕ → Bool
is_so_many None count = true
is_so_many (Some channels) count = channels == count

-- no channel is chosen, and no other number of channels is stated
abbrev pub takes_all : Raw → ℕ → Bool
takes_all raw count = is_none raw.channel && is_so_many raw.channels count

-- what `count` channels share, unless the format is for one channel: a line has one token, or a column or
-- channel is chosen, or another number of channels is stated
abbrev pub shared_by : Form → ℕ → Option Shared
shared_by (lines decimals) count = None
shared_by (table t) count = if is_none t.column then Some (shared_rows t.separator t.has_header) else None
shared_by (wave wav) count = if is_none wav.channel then Some (shared_wave wav) else None
shared_by (samples raw) count = if takes_all raw count then Some (shared_samples raw) else None

-- how a word is written, if in digits
abbrev pub decimals_of : Form → Decimals
decimals_of (lines decimals) = decimals
decimals_of (table t) = t.decimals
decimals_of (wave wav) = whole
decimals_of (samples raw) = whole
