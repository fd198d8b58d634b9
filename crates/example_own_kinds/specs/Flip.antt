-- The family with the one kind flip: it reads a flag and writes its negation, forever.
use Rattle.std.specs.Prelude.{◌≡◌, ℕ, ◌==◌, ◌&&◌, not, Bool, if◌then◌else◌, List, [], ◌∷◌, Option, Some, None, codes}
use Rattle.std.specs.Str.{bytes_eq}
use Rattle.kpn_model.specs.declared.token.Token.{Token}
use Rattle.kpn_model.specs.declared.token.Token.TheVariants.{Word, Flag}
use Rattle.kpn_model.specs.declared.kinds.Card.{Card}
use Rattle.kpn_model.specs.declared.kinds.Signature.{Signature}
use Rattle.kpn_model.specs.declared.kinds.Act.TheVariants.{Read, Write}
use Rattle.kpn_model.specs.declared.kinds.Answer.{Answer}
use Rattle.kpn_model.specs.Network.{Family}
use Rattle.kpn_standard.specs.Locals.{at}
use Rattle.kpn_standard.specs.Table.{one_flag}

-- the number of a kind by its name, and how many arguments it takes
abbrev pub number_named : List ℕ → Option (ℕ × ℕ)
number_named name = if bytes_eq name (codes "flip") then Some (0, 0) else None

abbrev pub flip : Card
flip = record { kind = 0; args = 0 ∷ 0 ∷ 0 ∷ [] }

abbrev pub is_flip : Card → Bool
is_flip card = (card.kind == 0) && ((at card.args 0 == 0) && ((at card.args 1 == 0) && (at card.args 2 == 0)))

abbrev pub ports : Card → Option Signature
ports card = if is_flip card then Some (record { ins = one_flag; outs = one_flag }) else None

abbrev pub before_read : List ℕ
before_read = 0 ∷ 0 ∷ 0 ∷ 0 ∷ []

abbrev pub after_read : List ℕ
after_read = 1 ∷ 0 ∷ 0 ∷ 0 ∷ []

abbrev pub FlipLine : List ℕ → Option Token → Type 0
FlipLine local None = local ≡ before_read
FlipLine local (Some (Flag f)) = local ≡ after_read
FlipLine local (Some (Word n)) = ⊥

-- the answer of each line: the next local state, and the act
abbrev pub answer : Option Token → Answer
answer (Some (Flag f)) = record { next = before_read; act = Write 0 (Flag (not f)) }
answer _ = record { next = after_read; act = Read 0 }

abbrev pub flips : Family
flips = record { start = λ card. before_read; answer = λ card local last. answer last }
