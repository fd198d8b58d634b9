-- The kinds that compute words: answers, and states, a line for each act.
use Rattle.std.specs.Prelude.{ℕ, ◌+◌, ◌*◌, ◌%◌, ◌^◌, ◌==◌, if◌then◌else◌, List, Option, Some, None}
use Rattle.kpn_model.specs.declared.token.Token.{Token}
use Rattle.kpn_model.specs.declared.token.Token.TheVariants.{Word}
use Rattle.kpn_model.specs.declared.kinds.Act.TheVariants.{Read, Write}
use Rattle.kpn_model.specs.declared.kinds.Answer.{Answer}
use Rattle.kpn_standard.specs.Locals.{at, one, two, says, word}

abbrev pub add_answer : List ℕ → List ℕ → Token → Answer
add_answer args l t =
    if at l 0 == 0 then says 1 0 0 (Read 0) else
    if at l 0 == 1 then says 2 (word t) 0 (Read 1) else
    says 0 0 0 (Write 0 (Word ((at l 1 + word t) % 2 ^ 64)))

pub data AddLine : List ℕ → Option Token → Type 0 where
  add_reads_first : AddLine (one 0) None
  add_reads_second : {x : ℕ} → AddLine (one 1) (Some (Word x))
  add_writes : {x y : ℕ} → AddLine (two 2 x) (Some (Word y))

-- the word times the factor, modulo 2 ^ 64
abbrev pub scaled : List ℕ → Token → ℕ
scaled args t = (at args 0 * word t) % 2 ^ 64

abbrev pub scale_answer : List ℕ → List ℕ → Token → Answer
scale_answer args l t = if at l 0 == 0 then says 1 0 0 (Read 0) else says 0 0 0 (Write 0 (Word (scaled args t)))

pub data ScaleLine : List ℕ → Option Token → Type 0 where
  scale_reads : ScaleLine (one 0) None
  scale_writes : {t : ℕ} → ScaleLine (one 1) (Some (Word t))
