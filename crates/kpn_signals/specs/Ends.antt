-- The kinds that stop at once, only read or only write, one that copies, and one that writes a word, then copies.
use Rattle.std.specs.Prelude.{ℕ, ◌+◌, ◌%◌, ◌^◌, ◌==◌, if◌then◌else◌, List, Option, Some, None}
use Rattle.kpn_model.specs.declared.token.Token.{Token}
use Rattle.kpn_model.specs.declared.token.Token.TheVariants.{Word, Flag}
use Rattle.kpn_model.specs.declared.kinds.Act.TheVariants.{Read, Write}
use Rattle.kpn_model.specs.declared.kinds.Answer.{Answer}
use Rattle.kpn_standard.specs.Locals.{at, says, stays, word, flag}
use Rattle.kpn_signals.specs.Shapes.{number_of}

-- input and input_flags: stop at once; their channels' tokens come from outside
--     any   the same   stop
abbrev pub input_answer : List ℕ → Answer
input_answer l = stays l

-- drain and drain_flags: read forever
--     any   the same   read input 0
abbrev pub drain_answer : List ℕ → Answer
drain_answer l = record { next = l; act = Read 0 }

-- constant: writes its argument forever
--     any   the same   write v to output 0
abbrev pub constant_answer : ℕ → List ℕ → Answer
constant_answer v l = record { next = l; act = Write 0 (Word v) }

-- count_up: writes 0, 1, 2, .. modulo 2^64 forever
--     [i]   [(i + 1) % 2^64]   write i to output 0
abbrev pub count_up_answer : List ℕ → Answer
count_up_answer l = says ((at l 0 + 1) % 2 ^ 64) 0 0 (Write 0 (Word (at l 0)))

-- copy_flags: writes each flag to output 0, then to output 1
--     [0]                none  [0]      read input 0
--     [p, m], p not 0    none  [0]      write m = 1 to output 1
--     any                f     [1, f as a number]   write f to output 0
abbrev pub copy_flags_answer : List ℕ → Option Token → Answer
copy_flags_answer l None = if at l 0 == 0 then says 0 0 0 (Read 0) else says 0 0 0 (Write 1 (Flag (at l 1 == 1)))
copy_flags_answer l (Some t) = says 1 (number_of (Flag (flag t))) 0 (Write 0 (Flag (flag t)))

-- prefix, signed: writes a word v, then each word that it reads
--     [0]           none  [1]   write v to output 0
--     [p], p not 0  none  [1]   read input 0
--     any           w     [1]   write w to output 0
abbrev pub prefix_answer : ℕ → List ℕ → Option Token → Answer
prefix_answer v l None = if at l 0 == 0 then says 1 0 0 (Write 0 (Word v)) else says 1 0 0 (Read 0)
prefix_answer v l (Some t) = says 1 0 0 (Write 0 (Word (word t)))
