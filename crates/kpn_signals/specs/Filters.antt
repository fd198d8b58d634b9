-- The kinds that keep words, and one that clips them.
use Rattle.std.specs.Prelude.{ℕ, ℤ, pos, ◌+◌, ◌-◌, ◌%◌, ◌^◌, ◌+ℤ◌, ◌-ℤ◌, if◌then◌else◌, List, [], ◌∷◌, take}
use Rattle.std.specs.List.{fold}
use Rattle.std.specs.Int.{int_min, int_max, int_shr}
use Rattle.kpn_model.specs.declared.token.Token.{Token}
use Rattle.kpn_model.specs.declared.token.Token.TheVariants.{Word, Flag}
use Rattle.kpn_standard.specs.Locals.{at, one, word, flag}
use Rattle.kpn_signals.specs.Words.{signed, word_of, wrapped, floor_div}
use Rattle.kpn_signals.specs.Shapes.{number_of}
use Rattle.kpn_signals.specs.Arithmetic.{difference}

-- hold: the word if the flag is true, else the word written last, which it keeps
abbrev pub choice : ℕ → ℕ → Token → ℕ
choice kept x t = if flag t then x else kept

abbrev pub hold_join : ℕ → ℕ → Token → ℕ × Token
hold_join kept x t = (choice kept x t, Word (choice kept x t))

-- delay: the word n words earlier; it keeps the last four, the latest first
abbrev pub delay_step : ℕ → List ℕ → Token → List ℕ × Token
delay_step n kept t = (word t ∷ at kept 0 ∷ at kept 1 ∷ at kept 2 ∷ [], Word (at kept (n - 1)))

-- low_pass: y + (x - y) / 2^k for a word x, rounded down, in two's complement; y is the word written last
abbrev pub next_level : ℕ → ℕ → ℕ → ℕ
next_level k y x = word_of (signed y +ℤ int_shr (signed x -ℤ signed y) k)

abbrev pub low_pass_step : ℕ → List ℕ → Token → List ℕ × Token
low_pass_step k kept t = (next_level k (at kept 0) (word t) ∷ 0 ∷ 0 ∷ 0 ∷ [], Word (next_level k (at kept 0) (word t)))

abbrev pub nearest : ℕ → ℕ → ℕ → ℕ
nearest lo hi w = word_of (int_max (signed lo) (int_min (signed w) (signed hi)))

abbrev pub clip_step : ℕ → ℕ → List ℕ → Token → List ℕ × Token
clip_step lo hi kept t = (kept, Word (nearest lo hi (word t)))

-- sum: of all words so far; it keeps the sum
abbrev pub total : ℕ → ℕ → ℕ
total kept w = (kept + w) % 2 ^ 64

abbrev pub sum_step : List ℕ → Token → List ℕ × Token
sum_step kept t = (one (total (at kept 0) (word t)), Word (total (at kept 0) (word t)))

-- difference: the word minus the one before, 0 at first; it keeps the word
abbrev pub difference_step : List ℕ → Token → List ℕ × Token
difference_step kept t = (one (word t), Word (difference (word t) (at kept 0)))

abbrev pub signed_sum : List ℕ → ℤ
signed_sum ws = fold (λ z w. z +ℤ signed w) (pos 0) ws

-- average: the mean of the last n words, rounded down, signed; it keeps the last four, the latest first
abbrev pub mean : ℕ → List ℕ → ℕ
mean n ws = wrapped (floor_div (signed_sum (take n ws)) (pos n))

abbrev pub average_step : ℕ → List ℕ → Token → List ℕ × Token
average_step n kept t = (word t ∷ at kept 0 ∷ at kept 1 ∷ at kept 2 ∷ [], Word (mean n (word t ∷ kept)))

-- counter: how many flags were true; it keeps the count
abbrev pub counted : ℕ → Token → ℕ
counted kept t = (kept + number_of (Flag (flag t))) % 2 ^ 64

abbrev pub counter_step : List ℕ → Token → List ℕ × Token
counter_step kept t = (one (counted (at kept 0) t), Word (counted (at kept 0) t))
