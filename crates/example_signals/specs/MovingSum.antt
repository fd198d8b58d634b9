-- moving_sum: reads a word and writes the sum of it and the three words before it, modulo 2^64, for ever.
use Rattle.std.specs.Prelude.{ℕ, ◌+◌, ◌%◌, ◌^◌, ◌==◌, ◌&&◌, Bool, if◌then◌else◌, List, [], ◌∷◌, Option, Some, None, codes}
use Rattle.std.specs.Str.{bytes_eq}
use Rattle.kpn_compute.specs.KindTable.{Card, at}

-- the number of the kind of a name, and how many arguments it takes
abbrev pub number_named : List ℕ → Option (ℕ × ℕ)
number_named name = if bytes_eq name (codes "moving_sum") then Some (0, 0) else None

abbrev pub accepts : Card → Bool
accepts card = (card.kind == 0) && ((at card.args 0 == 0) && ((at card.args 1 == 0) && (at card.args 2 == 0)))

-- the three words before the first are 0
abbrev pub start : Card → List ℕ
start card = 0 ∷ 0 ∷ 0 ∷ 0 ∷ []

-- what is kept: the word, and the two before it; and what is written
abbrev pub step : Card → List ℕ → ℕ → List ℕ × ℕ
step card kept w = (w ∷ at kept 0 ∷ at kept 1 ∷ 0 ∷ [], (w + at kept 0 + at kept 1 + at kept 2) % 2 ^ 64)
