-- Words in two's complement: from -2^63 to 2^63 - 1.
use Rattle.std.specs.Prelude.{ℕ, suc, ◌^◌, ◌==◌, ℤ, pos, negsuc, neg_ℤ, unsigned_abs, if◌then◌else◌}
use Rattle.std.specs.Int.{w64, cast_signed, cast_unsigned, int_div_euclid, int_rem_euclid}

abbrev pub signed : ℕ → ℤ
signed w = cast_signed w64 w

abbrev pub word_of : ℤ → ℕ
word_of z = cast_unsigned w64 z

-- the word of z modulo 2^64
abbrev pub wrapped : ℤ → ℕ
wrapped z = unsigned_abs (int_rem_euclid z (pos (2 ^ 64)))

-- z / d, rounded down, for d not 0: Euclid's quotient for d > 0, and -z / -d for d < 0
abbrev pub floor_div : ℤ → ℤ → ℤ
floor_div z (pos n) = int_div_euclid z (pos n)
floor_div z (negsuc n) = int_div_euclid (neg_ℤ z) (pos (suc n))

-- the word of -1 - n
abbrev pub word_below : ℕ → ℕ
word_below n = word_of (negsuc n)

-- the word of the second of two arguments, if the first `below` of them are negative
abbrev pub bound : ℕ → ℕ → ℕ
bound n below = if below == 2 then word_below n else n
