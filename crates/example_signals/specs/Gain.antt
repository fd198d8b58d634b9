-- gain: reads a word and writes its product by a factor, or the greatest word if the product is greater, for ever.
use Rattle.std.specs.Prelude.{◌≡◌, ℕ, ◌*◌, ◌-◌, ◌^◌, ◌<◌, ◌==◌, ◌&&◌, min, Bool, if◌then◌else◌, List, [], ◌∷◌, Option, Some, None, codes}
use Rattle.std.specs.Str.{bytes_eq}
use Rattle.kpn_compute.specs.KindTable.{Token, Word, Flag, Card, Signature, Read, Write, Answer, Family, at, one_word}

-- the number of the kind of a name, and how many arguments it takes: the factor
abbrev pub number_named : List ℕ → Option (ℕ × ℕ)
number_named name = if bytes_eq name (codes "gain") then Some (0, 1) else None

abbrev pub is_gain : Card → Bool
is_gain card = (card.kind == 0) && ((at card.args 1 == 0) && (at card.args 2 == 0))

-- an input and an output of words
abbrev pub ports : Card → Option Signature
ports card = if is_gain card then Some (record { ins = one_word; outs = one_word }) else None

-- the local states before the read and after it
abbrev pub before_read : List ℕ
before_read = 0 ∷ 0 ∷ 0 ∷ 0 ∷ []

abbrev pub after_read : List ℕ
after_read = 1 ∷ 0 ∷ 0 ∷ 0 ∷ []

-- the lines of the table: the local state, by the token of the read just done
abbrev pub GainLine : List ℕ → Option Token → Type 0
GainLine local None = local ≡ before_read
GainLine local (Some (Word w)) = (local ≡ after_read) × (w < 2 ^ 64)
GainLine local (Some (Flag f)) = ⊥

-- the product, or the greatest word
abbrev pub amplified : ℕ → ℕ → ℕ
amplified factor w = min (factor * w) (2 ^ 64 - 1)

-- the answer of each line: the next local state, and the act
abbrev pub answer : Card → Option Token → Answer
answer card (Some (Word w)) = record { next = before_read; act = Write 0 (Word (amplified (at card.args 0) w)) }
answer card _ = record { next = after_read; act = Read 0 }

abbrev pub gains : Family
gains = record { start = λ card. before_read; answer = λ card local last. answer card last }
