-- The kinds that only write or only read: answers, and states, a line for each act.
use Rattle.std.specs.Prelude.{◌≡◌, ℕ, ◌+◌, ◌<◌, nat_lt, if◌then◌else◌, List, Option, Some, None}
use Rattle.kpn_model.specs.declared.token.Token.{Token}
use Rattle.kpn_model.specs.declared.token.Token.TheVariants.{Word}
use Rattle.kpn_model.specs.declared.kinds.Act.TheVariants.{Read, Write}
use Rattle.kpn_model.specs.declared.kinds.Answer.{Answer}
use Rattle.kpn_standard.specs.Locals.{at, one, says, stays}

-- it writes the next number and counts it
abbrev pub writes_next_number : List ℕ → List ℕ → Answer
writes_next_number args l = says (at l 0 + 1) 0 0 (Write 0 (Word (at args 0 + at l 0)))

abbrev pub count_answer : List ℕ → List ℕ → Token → Answer
count_answer args l t = if nat_lt (at l 0) (at args 1) then writes_next_number args l else stays l

pub data CountLine (n : ℕ) : List ℕ → Option Token → Type 0 where
  count_writes : {i : ℕ} → i < n → CountLine n (one i) None
  count_stops : {i : ℕ} → i ≡ n → CountLine n (one i) None

abbrev pub sink_answer : List ℕ → List ℕ → Token → Answer
sink_answer args l t = if nat_lt (at l 0) (at args 0) then says (at l 0 + 1) 0 0 (Read 0) else stays l

pub data SinkLine (n : ℕ) : List ℕ → Option Token → Type 0 where
  sink_reads_first : 0 < n → SinkLine n (one 0) None
  sink_reads_next : {i t : ℕ} → 0 < i → i < n → SinkLine n (one i) (Some (Word t))
  sink_reads_none : n ≡ 0 → SinkLine n (one 0) None
  sink_stops : {i t : ℕ} → 0 < n → i ≡ n → SinkLine n (one i) (Some (Word t))
