-- The kinds that compute words. Signed ones read words as two's complement.
use Rattle.std.specs.Prelude.{ℕ, pos, ◌+◌, ◌-◌, ◌*◌, ◌*ℤ◌, ◌%◌, ◌^◌, ◌==◌, unsigned_abs, if◌then◌else◌, List}
use Rattle.std.specs.Int.{int_min, int_max, int_shr}
use Rattle.kpn_model.specs.declared.token.Token.{Token}
use Rattle.kpn_model.specs.declared.token.Token.TheVariants.{Word}
use Rattle.kpn_standard.specs.Locals.{word}
use Rattle.kpn_signals.specs.Words.{signed, word_of, wrapped, floor_div}

abbrev pub difference : ℕ → ℕ → ℕ
difference x y = (x + (2 ^ 64 - y)) % 2 ^ 64

abbrev pub sub_join : ℕ → ℕ → Token → ℕ × Token
sub_join kept x t = (kept, Word (difference x (word t)))

abbrev pub product : ℕ → ℕ → ℕ
product x y = (x * y) % 2 ^ 64

abbrev pub mul_join : ℕ → ℕ → Token → ℕ × Token
mul_join kept x t = (kept, Word (product x (word t)))

abbrev pub scale_step : ℕ → List ℕ → Token → List ℕ × Token
scale_step k kept t = (kept, Word (product (word t) k))

-- shift: a word's signed number / 2^k, rounded down
abbrev pub right_shift : ℕ → ℕ → ℕ
right_shift k w = word_of (int_shr (signed w) k)

abbrev pub shift_step : ℕ → List ℕ → Token → List ℕ × Token
shift_step k kept t = (kept, Word (right_shift k (word t)))

abbrev pub left_shift : ℕ → ℕ → ℕ
left_shift k w = (w * 2 ^ k) % 2 ^ 64

abbrev pub left_step : ℕ → List ℕ → Token → List ℕ × Token
left_step k kept t = (kept, Word (left_shift k (word t)))

abbrev pub least : ℕ → ℕ → ℕ
least x y = word_of (int_min (signed x) (signed y))

abbrev pub min_join : ℕ → ℕ → Token → ℕ × Token
min_join kept x t = (kept, Word (least x (word t)))

abbrev pub greatest : ℕ → ℕ → ℕ
greatest x y = word_of (int_max (signed x) (signed y))

abbrev pub max_join : ℕ → ℕ → Token → ℕ × Token
max_join kept x t = (kept, Word (greatest x (word t)))

-- abs: the word of -2^63 stays, since 2^63 has the same word
abbrev pub abs_step : List ℕ → Token → List ℕ × Token
abs_step kept t = (kept, Word (unsigned_abs (signed (word t))))

abbrev pub raised : ℕ → ℕ → ℕ
raised k w = (w + k) % 2 ^ 64

abbrev pub offset_step : ℕ → List ℕ → Token → List ℕ × Token
offset_step k kept t = (kept, Word (raised k (word t)))

-- gain: the exact product with a number, divided by b, rounded down; then modulo 2^64
abbrev pub amplified : ℕ → ℕ → ℕ → ℕ
amplified a b w = wrapped (floor_div (signed w *ℤ signed a) (pos b))

abbrev pub gain_step : ℕ → ℕ → List ℕ → Token → List ℕ × Token
gain_step a b kept t = (kept, Word (amplified a b (word t)))

-- div: rounded down; -2^63 / -1 is 2^63 modulo 2^64, and a number divided by 0 is 0
abbrev pub quotient : ℕ → ℕ → ℕ
quotient x d = if d == 0 then 0 else wrapped (floor_div (signed x) (signed d))

abbrev pub div_join : ℕ → ℕ → Token → ℕ × Token
div_join kept x t = (kept, Word (quotient x (word t)))

-- mod: what div leaves, so x = d * (x div d) + (x mod d); for d = 0 it is x
abbrev pub remainder : ℕ → ℕ → ℕ
remainder x d = difference x (product d (quotient x d))

abbrev pub mod_join : ℕ → ℕ → Token → ℕ × Token
mod_join kept x t = (kept, Word (remainder x (word t)))
