-- Chunks of a WAV file.
use Rattle.std.proofs.Common.{◌≡◌, ◌<◌, ◌≤◌, ◌+◌, ℕ, false, inl, inr, List, Some, length, refl, arith}
use Rattle.std.proofs.lemmas.Bool.{and_parts, cases_Bool, leb-true}
use Rattle.std.specs.Prelude.{◌&&◌, nat_le}
use Rattle.kpn_tokens.specs.declared.layouts.Width.{Width}
use Rattle.kpn_tokens.specs.Heads.{Finds, after_chunk, chunk_size, has_letters, here, is_pcm, later, width_told}

module _ (bytes letters : List ℕ) where
  -- a chunk that is found does not stand before the place from which on it is sought
  pub found_after : (place found : ℕ) → Finds bytes letters place found → place ≤ found
  found_after place found (here within has) = omega arith
  found_after place found (later within has on) = omega (arith, found_after (after_chunk place bytes) found on)

  -- and is sought there, or further on
  pub sought_on : (place found : ℕ) → has_letters letters place bytes ≡ false → Finds bytes letters place found → Finds bytes letters (after_chunk place bytes) found
  sought_on place found other (here within has) = cc (rw other at has)
  sought_on place found other (later within has on) = on

  pub none_past : (place found : ℕ) → length bytes < place + 8 → Finds bytes letters place found → ⊥
  none_past place found past (here within has) = omega arith
  none_past place found past (later within has on) = omega arith

  -- there is only one
  pub only_one : (place found other : ℕ) → Finds bytes letters place found → Finds bytes letters place other → found ≡ other
  only_one place found other (here within has) (here within_too has_too) = refl
  only_one place found other (here within has) (later within_too lacks on) = cc (rw has at lacks)
  only_one place found other (later within lacks on) (here within_too has) = cc (rw has at lacks)
  only_one place found other (later within lacks on) (later within_too lacks_too on_too) = only_one (after_chunk place bytes) found other on on_too

-- a chunk ends before a later one
pub ends_before : (bytes letters others : List ℕ) (place found other : ℕ) → Finds bytes letters place found → Finds bytes others place other → found < other → after_chunk found bytes ≤ other
ends_before bytes letters others place found other (here within has) (here within_too has_too) h = absurd (omega arith)
ends_before bytes letters others place found other (here within has) (later within_too lacks on) h = found_after bytes others (after_chunk place bytes) other on
ends_before bytes letters others place found other (later within lacks on) (here within_too has) h = absurd (omega (arith, found_after bytes letters (after_chunk place bytes) found on))
ends_before bytes letters others place found other (later within lacks on) (later within_too lacks_too on_too) h = ends_before bytes letters others (after_chunk place bytes) found other on on_too h

-- a format that tells of PCM has sixteen bytes
pub told_long : (format : ℕ) (bytes : List ℕ) (width : Width) → width_told format bytes ≡ Some width → 16 ≤ chunk_size format bytes
told_long format bytes width e = elim (cases_Bool (nat_le 16 (chunk_size format bytes) && is_pcm format bytes)) [
  | inl h ↦ leb-true 16 (chunk_size format bytes) (and_parts (nat_le 16 (chunk_size format bytes)) (is_pcm format bytes) h).0
  | inr h ↦ cc (rw h at e)
]
