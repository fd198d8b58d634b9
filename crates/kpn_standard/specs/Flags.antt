-- The kinds that write or read flags: answers, and states, a line for each act.
use Rattle.std.specs.Prelude.{ℕ, ◌%◌, ◌==◌, if◌then◌else◌, Bool, List, Option, Some, None}
use Rattle.kpn_model.specs.declared.token.Token.{Token}
use Rattle.kpn_model.specs.declared.token.Token.TheVariants.{Word, Flag}
use Rattle.kpn_model.specs.declared.kinds.Act.TheVariants.{Read, Write}
use Rattle.kpn_model.specs.declared.kinds.Answer.{Answer}
use Rattle.kpn_standard.specs.Locals.{at, one, two, says, word, flag}

-- whether the number divides the word
abbrev pub is_divided : List ℕ → Token → Bool
is_divided args t = word t % at args 0 == 0

abbrev pub divides_answer : List ℕ → List ℕ → Token → Answer
divides_answer args l t = if at l 0 == 0 then says 1 0 0 (Read 0) else says 0 0 0 (Write 0 (Flag (is_divided args t)))

pub data DividesLine : List ℕ → Option Token → Type 0 where
  divides_reads : DividesLine (one 0) None
  divides_writes : {t : ℕ} → DividesLine (one 1) (Some (Word t))

abbrev pub switch_answer : List ℕ → List ℕ → Token → Answer
switch_answer args l t =
    if at l 0 == 0 then says 1 0 0 (Read 1) else
    if at l 0 == 1 then (if flag t then says 2 1 0 (Read 0) else says 2 0 0 (Read 0)) else
    says 0 0 0 (Write (at l 1) t)

pub data SwitchLine : List ℕ → Option Token → Type 0 where
  switch_reads_flag : SwitchLine (one 0) None
  switch_reads_word : {f : Bool} → SwitchLine (one 1) (Some (Flag f))
  switch_writes_first : {t : ℕ} → SwitchLine (two 2 0) (Some (Word t))
  switch_writes_second : {t : ℕ} → SwitchLine (two 2 1) (Some (Word t))

abbrev pub select_answer : List ℕ → List ℕ → Token → Answer
select_answer args l t =
    if at l 0 == 0 then says 1 0 0 (Read 2) else
    if at l 0 == 1 then (if flag t then says 2 0 0 (Read 1) else says 2 0 0 (Read 0)) else
    says 0 0 0 (Write 0 t)

pub data SelectLine : List ℕ → Option Token → Type 0 where
  select_reads_flag : SelectLine (one 0) None
  select_reads_word : {f : Bool} → SelectLine (one 1) (Some (Flag f))
  select_writes : {t : ℕ} → SelectLine (one 2) (Some (Word t))
