-- The kinds that write fewer or more words than they read.
use Rattle.std.specs.Prelude.{ℕ, ◌-◌, ◌==◌, if◌then◌else◌, List, Option, Some, None}
use Rattle.kpn_model.specs.declared.token.Token.{Token}
use Rattle.kpn_model.specs.declared.token.Token.TheVariants.{Word}
use Rattle.kpn_model.specs.declared.kinds.Act.TheVariants.{Read, Write}
use Rattle.kpn_model.specs.declared.kinds.Answer.{Answer}
use Rattle.kpn_standard.specs.Locals.{at, got, says, word, flag}
use Rattle.kpn_signals.specs.declared.turns.TheConstants.{READS_FIRST, READS_SECOND, WRITES}

-- skips one more word and reads the next
abbrev pub skips_word : List ℕ → Answer
skips_word l = says (at l 0 - 1) 0 0 (Read 0)

-- decimate: writes the first of each n words; p words are still to be skipped
--     [p]            none  [p]       read input 0
--     [0]            w     [n - 1]   write w to output 0
--     [p], p not 0   w     [p - 1]   read input 0
abbrev pub decimate_answer : ℕ → List ℕ → Option Token → Answer
decimate_answer n l None = says (at l 0) 0 0 (Read 0)
decimate_answer n l (Some t) = if at l 0 == 0 then says (n - 1) 0 0 (Write 0 (Word (word t))) else skips_word l

-- writes the word once more
abbrev pub writes_again : List ℕ → Answer
writes_again l = says (at l 0 - 1) (at l 1) 0 (Write 0 (Word (at l 1)))

-- repeat: writes each word n times; the word v is still to be written m times
--     [0, v]            none  [0, v]       read input 0
--     [m, v], m not 0   none  [m - 1, v]   write v to output 0
--     any               w     [n - 1, w]   write w to output 0
abbrev pub repeat_answer : ℕ → List ℕ → Option Token → Answer
repeat_answer n l None = if at l 0 == 0 then says 0 (at l 1) 0 (Read 0) else writes_again l
repeat_answer n l (Some t) = says (n - 1) (word t) 0 (Write 0 (Word (word t)))

-- gate: reads a word of input 0 and a flag of input 1, and writes the word if the flag is true
--     [READS_FIRST]    none   [READS_SECOND]   read input 0
--     [READS_SECOND]   x      [WRITES, x]      read input 1
--     [WRITES, x]      true   [READS_FIRST]    write x to output 0
--     [WRITES, x]      false  [READS_SECOND]   read input 0
abbrev pub gate_answer : List ℕ → Option Token → Answer
gate_answer l last =
    if at l 0 == READS_FIRST then says READS_SECOND 0 0 (Read 0) else
    if at l 0 == READS_SECOND then says WRITES (word (got last)) 0 (Read 1) else
    if flag (got last) then says READS_FIRST 0 0 (Write 0 (Word (at l 1))) else says READS_SECOND 0 0 (Read 0)
