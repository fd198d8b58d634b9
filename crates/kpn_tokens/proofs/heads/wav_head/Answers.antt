use Rattle.std.proofs.Common.{◌≡◌, ◌<◌, ◌≤◌, ◌+◌, Some, codes, length, rules, sym, arith}
use Rattle.std.proofs.lemmas.Grind.{common_steps}
use Rattle.kpn_tokens.specs.Heads.{after_chunk, chunk_size, width_told}
use Rattle.kpn_tokens.proofs.Chunks.{ends_before, only_one, told_long}
use Rattle.kpn_tokens.proofs.heads.wav_head.Goals as goal

pub returns-then-format-samples : goal.returns-then-format-samples
returns-then-format-samples c =
    let bytes = c.args.bytes.now in (
      c.in-Some.samples,
      c.in-Some.ensures.0,
      λ format h.
          let same : c.in-Some-chunk_in.format ≡ format = only_one bytes (codes "fmt ") 12 c.in-Some-chunk_in.format format c.in-Some-chunk_in.ensures.0 h in
          omega arith,
    )

pub width_told-requires : goal.width_told-requires
width_told-requires c =
    let bytes = c.args.bytes.now in
    let order : c.in-Some-chunk_in.format < c.in-Some.samples = search rules in
    let ended : after_chunk c.in-Some-chunk_in.format bytes ≤ c.in-Some.samples =
    ends_before bytes (codes "fmt ") (codes "data") 12 c.in-Some-chunk_in.format c.in-Some.samples c.in-Some-chunk_in.ensures.0 c.in-Some.ensures.0 order in
    let within : c.in-Some.samples + 8 ≤ length bytes = c.in-Some.ensures.1 in
    omega arith

pub head_of-requires-clause-format : goal.head_of-requires-clause-format
head_of-requires-clause-format c =
    let bytes = c.args.bytes.now in
    let order : c.in-Some-chunk_in.format < c.in-Some.samples = search rules in
    let ended : after_chunk c.in-Some-chunk_in.format bytes ≤ c.in-Some.samples =
    ends_before bytes (codes "fmt ") (codes "data") 12 c.in-Some-chunk_in.format c.in-Some.samples c.in-Some-chunk_in.ensures.0 c.in-Some.ensures.0 order in
    let within : c.in-Some.samples + 8 ≤ length bytes = c.in-Some.ensures.1 in
    let told : width_told c.in-Some-chunk_in.format bytes ≡ Some c.in-Some-width_told.width = sym c.in-Some-width_told.ensures in
    let long : 16 ≤ chunk_size c.in-Some-chunk_in.format bytes = told_long c.in-Some-chunk_in.format bytes c.in-Some-width_told.width told in
    omega arith

pub returns-then-samples-gt-LONGEST_HEAD : goal.returns-then-samples-gt-LONGEST_HEAD
returns-then-samples-gt-LONGEST_HEAD c =
    let bytes = c.args.bytes.now in
    let past : 65536 < c.in-Some.samples + 8 = search rules in
    let within : c.in-Some.samples + 8 ≤ length bytes = c.in-Some.ensures.1 in (
      omega arith,
      λ samples h.
          let same : c.in-Some.samples ≡ samples = only_one bytes (codes "data") 12 c.in-Some.samples samples c.in-Some.ensures.0 h in
          omega arith,
    )

pub returns-in-Some-width_told : goal.returns-in-Some-width_told
returns-in-Some-width_told c = grind (arith, common_steps)
