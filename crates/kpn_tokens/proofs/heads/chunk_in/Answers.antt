use Rattle.std.proofs.Common.{◌≡◌, ◌<◌, ◌≤◌, ◌+◌, ◌%◌, ◌∙◌, true, false, ap, length, rules, sym}
use Rattle.kpn_tokens.specs.Heads.{after_chunk, chunk_size, has_letters, here, later}
use Rattle.kpn_tokens.proofs.Chunks.{none_past, sought_on}
use Rattle.kpn_tokens.proofs.heads.chunk_in.Goals as goal

pub returns-then-has_letters : goal.returns-then-has_letters
returns-then-has_letters c =
    let within : c.loop-place.place + 8 ≤ length c.args.bytes.now = search rules in
    let has : has_letters c.args.letters.now c.loop-place.place c.args.bytes.now ≡ true = sym c.has_letters.ensures ∙ c.if-has_letters.true in
    (c.loop-place.invariant.first c.loop-place.place (here within has), within)

pub loop-place-preserved : goal.loop-place-preserved
loop-place-preserved c =
    let bytes = c.args.bytes.now in
    let letters = c.args.letters.now in
    let place = c.loop-place.place in
    let within : place + 8 ≤ length bytes = search rules in
    let no : has_letters letters place bytes ≡ false = sym c.has_letters.ensures ∙ c.if-has_letters.false in
    let size : c.chunk_size-size.result ≡ chunk_size place bytes = c.chunk_size-size.ensures in
    let next : place + 8 + c.chunk_size-size.result + c.chunk_size-size.result % 2 ≡ after_chunk place bytes = ap (λ n. place + 8 + n + n % 2) size in
    record {
      first = λ found h. c.loop-place.invariant.first found (later within no (rw next at h));
      only = λ found h. rw next (sought_on bytes letters place found no (c.loop-place.invariant.only found h));
    }

pub returns-else-place-bytes : goal.returns-else-place-bytes
returns-else-place-bytes c =
    λ found h.
    let past : length c.args.bytes.now < c.loop-place.place + 8 = search rules in
    none_past c.args.bytes.now c.args.letters.now c.loop-place.place found past (c.loop-place.invariant.only found h)
