-- The two shapes of most kinds, each as a table: local state, last token, next local state, act. Each has a
-- line for any local state and last token.
use Rattle.std.specs.Prelude.{ℕ, ◌==◌, if◌then◌else◌, true, false, List, Option, Some, None}
use Rattle.kpn_model.specs.declared.token.Token.{Token}
use Rattle.kpn_model.specs.declared.token.Token.TheVariants.{Word, Flag}
use Rattle.kpn_model.specs.declared.kinds.Act.TheVariants.{Read, Write}
use Rattle.kpn_model.specs.declared.kinds.Answer.{Answer}
use Rattle.kpn_standard.specs.Locals.{at, says, got, IsLocal, LastFits}
use Rattle.kpn_signals.specs.declared.turns.TheConstants.{READS_FIRST, READS_SECOND, WRITES}

-- reads a token, then writes what a step makes of it and of the four kept words:
--     kept  none  kept                  read input 0
--     kept  t     what the step keeps   write what it makes to output 0
abbrev pub step_answer : (List ℕ → Token → List ℕ × Token) → List ℕ → Option Token → Answer
step_answer step kept None = record { next = kept; act = Read 0 }
step_answer step kept (Some t) = record { next = (step kept t).0; act = Write 0 (step kept t).1 }

abbrev pub number_of : Token → ℕ
number_of (Word n) = n
number_of (Flag true) = 1
number_of (Flag false) = 0

-- writes what was made of two tokens, and keeps a word
abbrev pub write_of : ℕ × Token → Answer
write_of made = says READS_FIRST 0 made.0 (Write 0 made.1)

-- reads a token of input 0, then one of input 1, then writes what is made of both and of one kept word:
--     [READS_FIRST, _, k]   none  [READS_SECOND, 0, k]                 read input 0
--     [READS_SECOND, _, k]  x     [WRITES, x as a number, k]           read input 1
--     [WRITES, x, k]        y     [READS_FIRST, 0, what is kept]       write what is made of k, x and y to output 0
abbrev pub join_answer : (ℕ → ℕ → Token → ℕ × Token) → List ℕ → Option Token → Answer
join_answer join l last =
    if at l 0 == READS_FIRST then says READS_SECOND 0 (at l 2) (Read 0) else
    if at l 0 == READS_SECOND then says WRITES (number_of (got last)) (at l 2) (Read 1) else
    write_of (join (at l 2) (at l 1) (got last))

pub record Admitted (local : List ℕ) (last : Option Token) : Type 0 where
  pub local_fits : IsLocal local
  pub last_fits : LastFits last
