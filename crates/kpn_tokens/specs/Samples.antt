-- Samples: words as bytes.
use Rattle.std.specs.Prelude.{◌+◌, ◌-◌, ◌*◌, ◌%◌, ◌^◌, ◌==◌, ◌||◌, ◌++◌, ℕ, Bool, true, false, if◌then◌else◌, drop, length, nat_lt, nat_le, replicate, List, Option, Some, None, Result, Ok, Err}
use Rattle.byteorder.specs.Endian.{big_bytes, big_number, little_bytes, little_number}
use Rattle.kpn_model.specs.declared.token.Sort.{Sort}
use Rattle.kpn_model.specs.declared.token.Sort.TheVariants.{Words, Flags}
use Rattle.kpn_model.specs.declared.token.Token.{Token}
use Rattle.kpn_model.specs.declared.token.Token.TheVariants.{Word, Flag}
use Rattle.kpn_tokens.specs.declared.layouts.Coding.{Coding}
use Rattle.kpn_tokens.specs.declared.layouts.Coding.TheVariants.{Unsigned, Signed, Offset}
use Rattle.kpn_tokens.specs.declared.layouts.Endian.{Endian}
use Rattle.kpn_tokens.specs.declared.layouts.Endian.TheVariants.{Little, Big}
use Rattle.kpn_tokens.specs.declared.layouts.Frame.{Frame}
use Rattle.kpn_tokens.specs.declared.layouts.Sample.{Sample}
use Rattle.kpn_tokens.specs.declared.layouts.Width.{Width}
use Rattle.kpn_tokens.specs.declared.layouts.Width.TheVariants.{One, Two, Three, Four, Eight}
use Rattle.kpn_tokens.specs.declared.layouts.RecordFault.{RecordFault}
use Rattle.kpn_tokens.specs.declared.layouts.RecordFault.TheVariants.{NotAFlag, CutShort}

-- how many bytes a sample has, how many numbers of that width there are, and half of these
abbrev pub bytes_in : Width → ℕ
bytes_in One = 1
bytes_in Two = 2
bytes_in Three = 3
bytes_in Four = 4
bytes_in Eight = 8

abbrev pub numbers_of : Width → ℕ
numbers_of width = 256 ^ bytes_in width

abbrev pub half_of : Width → ℕ
half_of width = 2 ^ (8 * bytes_in width - 1)

-- the number in the first n bytes
abbrev pub number_in : Endian → ℕ → List ℕ → ℕ
number_in Little n bytes = little_number n bytes
number_in Big n bytes = big_number n bytes

abbrev pub bytes_of : Endian → ℕ → ℕ → List ℕ
bytes_of Little n x = little_bytes n x
bytes_of Big n x = big_bytes n x

-- the word for a number: itself; two's complement; or offset by half of all numbers
abbrev pub word_from : Coding → Width → ℕ → ℕ
word_from Unsigned width n = n
word_from Signed width n = if nat_lt n (half_of width) then n else n + (2 ^ 64 - numbers_of width)
word_from Offset width n = (n + (2 ^ 64 - half_of width)) % 2 ^ 64

-- the number for a word
abbrev pub number_for : Coding → Width → ℕ → ℕ
number_for Unsigned width word = word
number_for Signed width word = word % numbers_of width
number_for Offset width word = (word + half_of width) % 2 ^ 64

-- the word has a number
abbrev pub is_fit : Coding → Width → ℕ → Bool
is_fit Unsigned width word = nat_lt word (numbers_of width)
is_fit Signed width word = nat_lt word (half_of width) || nat_le (2 ^ 64 - half_of width) word
is_fit Offset width word = nat_lt word (half_of width) || nat_le (2 ^ 64 - half_of width) word

-- the nearest word with a number; one from 2 ^ 63 on that does not fit is below zero
abbrev pub least : Coding → Width → ℕ
least Unsigned width = 0
least Signed width = 2 ^ 64 - half_of width
least Offset width = 2 ^ 64 - half_of width

abbrev pub greatest : Coding → Width → ℕ
greatest Unsigned width = numbers_of width - 1
greatest Signed width = half_of width - 1
greatest Offset width = half_of width - 1

-- the least or the greatest word with a number, whichever is on the side of the word
abbrev pub end_beside : Coding → Width → ℕ → ℕ
end_beside coding width word = if nat_lt word (2 ^ 63) then greatest coding width else least coding width

abbrev pub nearest : Coding → Width → ℕ → ℕ
nearest coding width word = if is_fit coding width word then word else end_beside coding width word

-- a flag is 0 or 1
abbrev pub word_for : Token → ℕ
word_for (Word n) = n
word_for (Flag false) = 0
word_for (Flag true) = 1

abbrev pub token_for : Sort → ℕ → Result (Option Token) RecordFault
token_for Words n = Ok (Some (Word n))
token_for Flags n = if n == 0 then Ok (Some (Flag false)) else if n == 1 then Ok (Some (Flag true)) else Err NotAFlag

-- the number and the word of the sample at the beginning of the bytes
abbrev pub sampled_number : Sample → List ℕ → ℕ
sampled_number sample bytes = number_in sample.endian (bytes_in sample.width) bytes

abbrev pub sampled_word : Sample → List ℕ → ℕ
sampled_word sample bytes = word_from sample.coding sample.width (sampled_number sample bytes)

abbrev pub sample_said : Sample → Sort → List ℕ → Result (Option Token) RecordFault
sample_said sample sort bytes = token_for sort (sampled_word sample bytes)

-- the number for a word, or for the nearest that has one
abbrev pub nearest_number : Sample → ℕ → ℕ
nearest_number sample word = number_for sample.coding sample.width (nearest sample.coding sample.width word)

-- the sample of a word, or of the nearest that has one
abbrev pub word_sample : Sample → ℕ → List ℕ
word_sample sample word = bytes_of sample.endian (bytes_in sample.width) (nearest_number sample word)

abbrev pub has_sample : Sample → Token → Bool
has_sample sample token = is_fit sample.coding sample.width (word_for token)

-- how many bytes a frame has, and its token
abbrev pub frame_size : Frame → ℕ
frame_size frame = frame.before + bytes_in frame.sample.width + frame.after

-- what the sample within a frame says
abbrev pub within_said : Frame → Sort → List ℕ → Result (Option Token) RecordFault
within_said frame sort bytes = sample_said frame.sample sort (drop frame.before bytes)

-- the frame is longer than these bytes
abbrev pub is_cut_short : Frame → List ℕ → Bool
is_cut_short frame bytes = nat_lt (length bytes) (frame_size frame)

abbrev pub frame_said : Frame → Sort → List ℕ → Result (Option Token) RecordFault
frame_said frame sort bytes = if is_cut_short frame bytes then Err CutShort else within_said frame sort bytes

-- the frame of a sample at one of `count` places side by side
abbrev pub frame_at : Sample → ℕ → ℕ → Frame
frame_at sample count place =
    record {
      before = place * bytes_in sample.width;
      sample = sample;
      after = (count - 1 - place) * bytes_in sample.width;
    }

-- the sample of a token
abbrev pub token_sample : Sample → Token → List ℕ
token_sample sample token = word_sample sample (word_for token)

-- a token in its frame; all else is 0
abbrev pub frame_text : Frame → Token → List ℕ
frame_text frame token = replicate frame.before 0 ++ token_sample frame.sample token ++ replicate frame.after 0

-- the word for a token of a channel, and its sample; 0 if absent
abbrev pub channel_word : Option Token → ℕ
channel_word None = 0
channel_word (Some token) = word_for token

abbrev pub channel_text : Sample → Option Token → List ℕ
channel_text sample token = word_sample sample (channel_word token)
