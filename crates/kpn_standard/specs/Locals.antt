-- Local states, last tokens and answers. A local state is written with its first numbers; the others are 0.
use Rattle.std.specs.Prelude.{ℕ, ◌<◌, ◌^◌, Bool, false, List, [], ◌∷◌, Option, Some, None}
use Rattle.kpn_model.specs.declared.token.Token.{Token}
use Rattle.kpn_model.specs.declared.token.Token.TheVariants.{Word, Flag}
use Rattle.kpn_model.specs.declared.kinds.Act.{Act}
use Rattle.kpn_model.specs.declared.kinds.Act.TheVariants.{Stop}
use Rattle.kpn_model.specs.declared.kinds.Answer.{Answer}
use Rattle.kpn_model.specs.Lawful.{Fits}
pub use Rattle.kpn_compute.specs.KindTable.{at}

abbrev pub one : ℕ → List ℕ
one a = a ∷ 0 ∷ 0 ∷ 0 ∷ []

abbrev pub two : ℕ → ℕ → List ℕ
two a b = a ∷ b ∷ 0 ∷ 0 ∷ []

abbrev pub three : ℕ → ℕ → ℕ → List ℕ
three a b c = a ∷ b ∷ c ∷ 0 ∷ []

abbrev pub IsLocal : List ℕ → Type 0
IsLocal (a ∷ b ∷ c ∷ d ∷ []) = (a < 2 ^ 64) × (b < 2 ^ 64) × (c < 2 ^ 64) × (d < 2 ^ 64)
IsLocal l = ⊥

abbrev pub LastFits : Option Token → Type 0
LastFits None = Unit {0}
LastFits (Some t) = Fits t

-- the answer with this act and the next local state a, b, c, 0
abbrev pub says : ℕ → ℕ → ℕ → Act → Answer
says a b c act = record { next = a ∷ b ∷ c ∷ 0 ∷ []; act = act }

-- the answer that stops
abbrev pub stays : List ℕ → Answer
stays local = record { next = local; act = Stop }

abbrev pub got : Option Token → Token
got None = Word 0
got (Some t) = t

abbrev pub word : Token → ℕ
word (Word n) = n
word (Flag b) = 0

abbrev pub flag : Token → Bool
flag (Word n) = false
flag (Flag b) = b
