-- The samples of a WAV file begin within the bytes that tell its head.
use Rattle.std.proofs.Common.{◌≤◌, ◌+◌, ℕ, Bool, List, Option, Some, None, Result, Ok, Err, length, arith}
use Rattle.kpn_tokens.specs.Heads.{Finds, after_chunk, here, later}
use Rattle.hox_format.specs.declared.records.Records.{Records}
use Rattle.hox_format.specs.declared.records.HeadFault.{HeadFault}
use Rattle.hox_format.specs.declared.formats.Wav.{Wav}
use Rattle.hox_format.specs.Records.{AreWavRecords, IsWithin}

found_within : (bytes letters : List ℕ) (place found : ℕ) → Finds bytes letters place found → found + 8 ≤ length bytes
found_within bytes letters place found (here within has) = within
found_within bytes letters place found (later within lacks on) = found_within bytes letters (after_chunk place bytes) found on

pub starts_within : (wav : Wav) (place count : ℕ) (bytes : List ℕ) (last : Bool) (records : Result (Option Records) HeadFault) → AreWavRecords wav place count bytes last records → IsWithin bytes records
starts_within wav place count bytes last (Ok (Some records)) (head, is, (channel, chosen, h)) =
    omega (arith, h.start, is.start, found_within bytes _ 12 is.samples is.samples_found)
starts_within wav place count bytes last (Ok None) h = tt
starts_within wav place count bytes last (Err fault) h = tt
