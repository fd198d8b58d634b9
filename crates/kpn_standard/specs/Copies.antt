-- The kinds that write what they read: answers, and states, a line for each act.
use Rattle.std.specs.Prelude.{◌≡◌, ℕ, ◌+◌, ◌<◌, ◌==◌, nat_lt, if◌then◌else◌, List, Option, Some, None}
use Rattle.kpn_model.specs.declared.token.Token.{Token}
use Rattle.kpn_model.specs.declared.token.Token.TheVariants.{Word}
use Rattle.kpn_model.specs.declared.kinds.Act.TheVariants.{Read, Write}
use Rattle.kpn_model.specs.declared.kinds.Answer.{Answer}
use Rattle.kpn_standard.specs.Locals.{at, one, two, says, stays, word}

abbrev pub take_answer : List ℕ → List ℕ → Token → Answer
take_answer args l t =
    if at l 0 == 1 then says 0 (at l 1 + 1) 0 (Write 0 t) else
    if nat_lt (at l 1) (at args 0) then says 1 (at l 1) 0 (Read 0) else
    stays l

pub data TakeLine (n : ℕ) : List ℕ → Option Token → Type 0 where
  take_reads : {i : ℕ} → i < n → TakeLine n (two 0 i) None
  take_writes : {i t : ℕ} → i < n → TakeLine n (two 1 i) (Some (Word t))
  take_stops : {i : ℕ} → i ≡ n → TakeLine n (two 0 i) None

abbrev pub copy_answer : List ℕ → List ℕ → Token → Answer
copy_answer args l t =
    if at l 0 == 0 then says 1 0 0 (Read 0) else
    if at l 0 == 1 then says 2 (word t) 0 (Write 0 t) else
    says 0 0 0 (Write 1 (Word (at l 1)))

pub data CopyLine : List ℕ → Option Token → Type 0 where
  copy_reads : CopyLine (one 0) None
  copy_writes_first : {t : ℕ} → CopyLine (one 1) (Some (Word t))
  copy_writes_second : {t : ℕ} → CopyLine (two 2 t) None

abbrev pub prefix_answer : List ℕ → List ℕ → Token → Answer
prefix_answer args l t =
    if at l 0 == 0 then says 1 0 0 (Write 0 (Word (at args 0))) else
    if at l 0 == 1 then says 2 0 0 (Read 0) else
    says 1 0 0 (Write 0 t)

pub data PrefixLine : List ℕ → Option Token → Type 0 where
  prefix_begins : PrefixLine (one 0) None
  prefix_reads : PrefixLine (one 1) None
  prefix_writes : {t : ℕ} → PrefixLine (one 2) (Some (Word t))
