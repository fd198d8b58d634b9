-- A sample says the word that was written in it.
use Rattle.std.proofs.Common.{◌≡◌, ◌<◌, ◌≤◌, ◌+◌, ◌-◌, ◌%◌, ◌^◌, ◌⊎◌, ℕ, true, false, inl, inr, List, [], ◌∷◌, ◌++◌, Ok, Some, append_assoc, drop, length, length-append, refl, arith}
use Rattle.std.proofs.Math.Nat.{mod-eq_of_lt}
use Rattle.std.proofs.Math.Seq.{take-append_seam}
use Rattle.std.proofs.lemmas.Bool.{le-ltb, leb-true, lt-ltb, ltb-true, or_cases}
use Rattle.std.proofs.lemmas.List.{length-replicate}
use Rattle.std.specs.Prelude.{◌||◌, nat_le, nat_lt, replicate}
use Rattle.byteorder.specs.Numbers.{big_number-reads_back, length-bytes_high_first, length-bytes_low_first, little_number-reads_back}
use Rattle.kpn_model.specs.declared.token.Sort.{Sort}
use Rattle.kpn_model.specs.declared.token.Sort.TheVariants.{Words, Flags}
use Rattle.kpn_model.specs.declared.token.Token.{Token}
use Rattle.kpn_model.specs.declared.token.Token.TheVariants.{Word, Flag}
use Rattle.kpn_tokens.specs.declared.layouts.Coding.{Coding}
use Rattle.kpn_tokens.specs.declared.layouts.Coding.TheVariants.{Unsigned, Signed, Offset}
use Rattle.kpn_tokens.specs.declared.layouts.Endian.{Endian}
use Rattle.kpn_tokens.specs.declared.layouts.Endian.TheVariants.{Little, Big}
use Rattle.kpn_tokens.specs.declared.layouts.Frame.{Frame}
use Rattle.kpn_tokens.specs.declared.layouts.Layout.TheVariants.{Frames}
use Rattle.kpn_tokens.specs.declared.layouts.Width.{Width}
use Rattle.kpn_tokens.specs.declared.layouts.Width.TheVariants.{One, Two, Three, Four, Eight}
use Rattle.kpn_tokens.specs.Samples.{bytes_in, bytes_of, frame_size, frame_text, half_of, is_fit, nearest, number_for, number_in, numbers_of, sample_said, token_for, word_for, word_from, word_sample}
use Rattle.kpn_tokens.specs.Records.{IsOf, fits, record_said}
use Rattle.kpn_tokens.proofs.RecordsBack.{IsBack}

-- what is left of a word below zero, in so many bytes
high_mod : (width : Width) (word : ℕ) → word < 2 ^ 64 → 2 ^ 64 - half_of width ≤ word → word % numbers_of width ≡ word - (2 ^ 64 - numbers_of width)
high_mod One word small high = omega arith
high_mod Two word small high = omega arith
high_mod Three word small high = omega arith
high_mod Four word small high = omega arith
high_mod Eight word small high = omega arith

-- a word does not change by all words
wraps : (word : ℕ) → word < 2 ^ 64 → (word + 2 ^ 64) % 2 ^ 64 ≡ word
wraps word small = omega arith

-- how many numbers there are of so many bytes
pub halves : (width : Width) → (numbers_of width ≡ half_of width + half_of width) × (0 < half_of width) × (numbers_of width ≤ 2 ^ 64)
halves One = (refl, omega arith, omega arith)
halves Two = (refl, omega arith, omega arith)
halves Three = (refl, omega arith, omega arith)
halves Four = (refl, omega arith, omega arith)
halves Eight = (refl, omega arith, omega arith)

signed_cases : (width : Width) (word : ℕ) → (nat_lt word (half_of width) || nat_le (2 ^ 64 - half_of width) word) ≡ true → (word < half_of width) ⊎ (2 ^ 64 - half_of width ≤ word)
signed_cases width word fit = elim (or_cases (nat_lt word (half_of width)) (nat_le (2 ^ 64 - half_of width) word) fit) [
  | inl low ↦ inl (ltb-true word (half_of width) low)
  | inr high ↦ inr (leb-true (2 ^ 64 - half_of width) word high)
]

-- the number for a word that fits is one of so many bytes, and stands for the word
pub fits_back : (coding : Coding) (width : Width) (word : ℕ) → word < 2 ^ 64 → is_fit coding width word ≡ true → (number_for coding width word < numbers_of width) × (word_from coding width (number_for coding width word) ≡ word)
fits_back Unsigned width word small fit = (ltb-true word (numbers_of width) fit, refl)
fits_back Signed width word small fit = elim (signed_cases width word fit) [
  | inl low ↦
      let half = halves width in
      let same : word % numbers_of width ≡ word = mod-eq_of_lt {n = word} {m = numbers_of width} (omega arith) in
      (omega arith, rw (same, lt-ltb word (half_of width) low) refl)
  | inr high ↦
      let half = halves width in
      let same = high_mod width word small high in
      (omega arith, rw (same, le-ltb (word - (2 ^ 64 - numbers_of width)) (half_of width) (omega arith)) (omega arith))
]
fits_back Offset width word small fit = elim (signed_cases width word fit) [
  | inl low ↦
      let half = halves width in
      let number : (word + half_of width) % 2 ^ 64 ≡ word + half_of width = mod-eq_of_lt {n = word + half_of width} {m = 2 ^ 64} (omega arith) in
      let sum : word + half_of width + (2 ^ 64 - half_of width) ≡ word + 2 ^ 64 = omega arith in
      (omega arith, rw (number, sum) (wraps word small))
  | inr high ↦
      let half = halves width in
      let above = word - (2 ^ 64 - half_of width) in
      let over : word + half_of width ≡ above + 2 ^ 64 = omega arith in
      let number : (word + half_of width) % 2 ^ 64 ≡ above = rw over (wraps above (omega arith)) in
      let sum : above + (2 ^ 64 - half_of width) ≡ word = omega arith in
      (omega arith, rw (number, sum) (mod-eq_of_lt {n = word} {m = 2 ^ 64} small))
]

-- the first bytes of a sample say its number
pub number_read : (endian : Endian) (width : Width) (n : ℕ) (more : List ℕ) → n < numbers_of width → number_in endian (bytes_in width) (bytes_of endian (bytes_in width) n ++ more) ≡ n
number_read Little width n more h = little_number-reads_back (bytes_in width) n more h
number_read Big width n more h = big_number-reads_back (bytes_in width) n more h

pub bytes_length : (endian : Endian) (width : Width) (n : ℕ) → length (bytes_of endian (bytes_in width) n) ≡ bytes_in width
bytes_length Little width n = length-bytes_low_first 0 (bytes_in width) n
bytes_length Big width n = length-bytes_high_first (bytes_in width) n

pub some_bytes : (width : Width) → 0 < bytes_in width
some_bytes One = omega arith
some_bytes Two = omega arith
some_bytes Three = omega arith
some_bytes Four = omega arith
some_bytes Eight = omega arith

pub small_word : (sort : Sort) (token : Token) → IsOf sort token → word_for token < 2 ^ 64
small_word Words (Word n) h = h
small_word Words (Flag b) h = absurd h
small_word Flags (Word n) h = absurd h
small_word Flags (Flag true) h = omega arith
small_word Flags (Flag false) h = omega arith

pub token_is : (sort : Sort) (token : Token) → IsOf sort token → token_for sort (word_for token) ≡ Ok (Some token)
token_is Words (Word n) h = refl
token_is Words (Flag b) h = absurd h
token_is Flags (Word n) h = absurd h
token_is Flags (Flag true) h = refl
token_is Flags (Flag false) h = refl

pub drop_first : (xs ys : List ℕ) → drop (length xs) (xs ++ ys) ≡ ys
drop_first [] ys = refl
drop_first (x ∷ xs) ys = drop_first xs ys

module _ (frame : Frame) (sort : Sort) (token : Token) (of : IsOf sort token) (fit : fits (Frames frame) token ≡ true) where
  abbrev sample : List ℕ
  sample = word_sample frame.sample (word_for token)

  pub sample_length : length (word_sample frame.sample (word_for token)) ≡ bytes_in frame.sample.width
  sample_length = bytes_length frame.sample.endian frame.sample.width (number_for frame.sample.coding frame.sample.width (nearest frame.sample.coding frame.sample.width (word_for token)))

  pub sample_back : (more : List ℕ) → sample_said frame.sample sort (word_sample frame.sample (word_for token) ++ more) ≡ Ok (Some token)
  sample_back more =
      let same : nearest frame.sample.coding frame.sample.width (word_for token) ≡ word_for token = rw fit refl in
      let back = fits_back frame.sample.coding frame.sample.width (word_for token) (small_word sort token of) fit in
      let number = number_for frame.sample.coding frame.sample.width (word_for token) in
      rw (same, number_read frame.sample.endian frame.sample.width number more back.0, back.1) (token_is sort token of)

  frame_length : length (frame_text frame token) ≡ frame_size frame
  frame_length =
      let before : List ℕ = replicate frame.before 0 in
      let after : List ℕ = replicate frame.after 0 in
      let both = length-append (before ++ sample) after in
      let one = length-append before sample in
      let first = length-replicate {A = ℕ} frame.before 0 in
      let last = length-replicate {A = ℕ} frame.after 0 in
      omega (arith, sample_length)

  frame_back_said : record_said (Frames frame) sort (frame_text frame token) ≡ Ok (Some token)
  frame_back_said =
      let before : List ℕ = replicate frame.before 0 in
      let after : List ℕ = replicate frame.after 0 in
      let size = frame_length in
      let whole : nat_lt (length (frame_text frame token)) (frame_size frame) ≡ false = le-ltb (length (frame_text frame token)) (frame_size frame) (omega arith) in
      let first : drop frame.before (frame_text frame token) ≡ sample ++ after =
      rw (append_assoc before sample after) (rw (length-replicate {A = ℕ} frame.before 0) at (drop_first before (sample ++ after))) in
      rw (whole, first) (sample_back after)

  pub frame_back : IsBack (Frames frame) sort token
  frame_back = record {
    some = omega (arith, frame_length, some_bytes frame.sample.width);
    says = λ more. rw (rw frame_length at (take-append_seam (frame_text frame token) more)) frame_back_said;
    leaves = λ more. rw frame_length at (drop_first (frame_text frame token) more);
  }
