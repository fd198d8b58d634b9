-- Frames of a WAV file have less than 2 ^ 16 bytes.
use Rattle.std.proofs.Common.{◌≡◌, ◌<◌, ◌≤◌, ◌+◌, ◌*◌, ◌^◌, ◌==◌, ℕ, Bool, inl, inr, List, Option, Some, None, Err, drop, get_or, get_or-drop, arith}
use Rattle.std.proofs.lemmas.Bool.{cases_Bool, eqb-true}
use Rattle.std.specs.Prelude.{◌&&◌, nat_le}
use Rattle.kpn_tokens.specs.declared.heads.WavHead.{WavHead}
use Rattle.kpn_tokens.specs.declared.layouts.Width.{Width}
use Rattle.kpn_tokens.specs.Heads.{IsWavHead, chunk_size, if_filled, is_pcm, number_at, width_of, width_told}
use Rattle.kpn_tokens.specs.Samples.{bytes_in}
use Rattle.hox_format.specs.declared.records.HeadFault.{HeadFault}
use Rattle.hox_format.specs.declared.records.HeadFault.TheVariants.{Wav, NoColumn, Names, Channels, NoChannel, TooLong, TooWide}
use Rattle.hox_format.specs.declared.formats.Wav.{Wav as WavFile}
use Rattle.hox_format.specs.Records.{AreWavRecords, IsChannelResult}

module _ (bytes : List ℕ) (small : (i : ℕ) → get_or bytes i 0 < 256) where
  -- a number of two bytes
  short : (place : ℕ) → number_at 2 place bytes < 2 ^ 16
  short place =
      let low : get_or (drop place bytes) 0 0 < 256 = rw (get_or-drop place bytes 0 0) (small (place + 0)) in
      let high : get_or (drop place bytes) 1 0 < 256 = rw (get_or-drop place bytes 1 0) (small (place + 1)) in
      omega arith

  filled : (format : ℕ) (told : Option Width) (width : Width) → if_filled format bytes told ≡ Some width → number_at 2 (format + 10) bytes * bytes_in width < 2 ^ 16
  filled format None width e = cc
  filled format (Some other) width e = elim (cases_Bool (number_at 2 (format + 10) bytes * bytes_in other == number_at 2 (format + 20) bytes)) [
    | inl h ↦
        let same : other ≡ width = cc (rw h at e) in
        let block : number_at 2 (format + 10) bytes * bytes_in other ≡ number_at 2 (format + 20) bytes = eqb-true _ _ h in
        rw (← same) (omega (arith, short (format + 20)))
    | inr h ↦ cc (rw h at e)
  ]

  narrow : (format : ℕ) (width : Width) → width_told format bytes ≡ Some width → number_at 2 (format + 10) bytes * bytes_in width < 2 ^ 16
  narrow format width e = elim (cases_Bool (nat_le 16 (chunk_size format bytes) && is_pcm format bytes)) [
    | inl h ↦ filled format (width_of (number_at 2 (format + 22) bytes)) width (rw h at e)
    | inr h ↦ cc (rw h at e)
  ]

  -- what is wrong with a channel of a WAV file
  pub refused_channel : (wav : WavFile) (place count : ℕ) (last : Bool) (head : WavHead) (fault : HeadFault) → IsWavHead bytes head → IsChannelResult wav place count head (Err fault)
      → AreWavRecords wav place count bytes last (Err fault)
  refused_channel wav place count last head (Wav fault) is h = absurd h
  refused_channel wav place count last head NoColumn is h = h
  refused_channel wav place count last head (Names fault) is h = h
  refused_channel wav place count last head (Channels has) is h = (head, is, h)
  refused_channel wav place count last head (NoChannel has) is h = (head, is, h)
  refused_channel wav place count last head TooLong is h = h
  refused_channel wav place count last head TooWide is h =
      let few : number_at 2 (is.format + 10) bytes * bytes_in is.width < 2 ^ 16 = narrow is.format is.width is.told in
      let wide : 2 ^ 16 ≤ number_at 2 (is.format + 10) bytes * bytes_in is.width = rw (is.channels, is.sample) at h in
      omega arith
