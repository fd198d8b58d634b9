-- The kinds that join two inputs: answers, and states, a line for each act.
use Rattle.std.specs.Prelude.{◌≡◌, ℕ, ◌+◌, ◌<◌, ◌==◌, nat_lt, if◌then◌else◌, List, Option, Some, None}
use Rattle.kpn_model.specs.declared.token.Token.{Token}
use Rattle.kpn_model.specs.declared.token.Token.TheVariants.{Word}
use Rattle.kpn_model.specs.declared.kinds.Act.TheVariants.{Read, Write}
use Rattle.kpn_model.specs.declared.kinds.Answer.{Answer}
use Rattle.kpn_standard.specs.Locals.{at, one, two, three, says, word}

-- weave's first number: whose turn it is, and whether it just read; the second: words copied in this turn
abbrev pub first_turn : ℕ
first_turn = 0

abbrev pub first_turn_read : ℕ
first_turn_read = 1

abbrev pub second_turn : ℕ
second_turn = 2

abbrev pub second_turn_read : ℕ
second_turn_read = 3

-- it writes the token; the turn goes on if it has had fewer than `most` words, else it is the other's
abbrev pub writes_in_turn : ℕ → ℕ → ℕ → ℕ → Token → Answer
writes_in_turn turn other most before t =
    if nat_lt (before + 1) most then says turn (before + 1) 0 (Write 0 t) else says other 0 0 (Write 0 t)

abbrev pub weave_answer : List ℕ → List ℕ → Token → Answer
weave_answer args l t =
    if at l 0 == first_turn then says first_turn_read (at l 1) 0 (Read 0) else
    if at l 0 == first_turn_read then writes_in_turn first_turn second_turn (at args 0) (at l 1) t else
    if at l 0 == second_turn then says second_turn_read (at l 1) 0 (Read 1) else
    writes_in_turn second_turn first_turn (at args 1) (at l 1) t

pub data WeaveLine (a b : ℕ) : List ℕ → Option Token → Type 0 where
  weave_reads_first : {i : ℕ} → i < a → WeaveLine a b (two first_turn i) None
  weave_writes_first : {i t : ℕ} → i + 1 < a → WeaveLine a b (two first_turn_read i) (Some (Word t))
  weave_turns_to_second : {i t : ℕ} → i + 1 ≡ a → WeaveLine a b (two first_turn_read i) (Some (Word t))
  weave_reads_second : {i : ℕ} → i < b → WeaveLine a b (two second_turn i) None
  weave_writes_second : {i t : ℕ} → i + 1 < b → WeaveLine a b (two second_turn_read i) (Some (Word t))
  weave_turns_to_first : {i t : ℕ} → i + 1 ≡ b → WeaveLine a b (two second_turn_read i) (Some (Word t))

-- merge's first number: which head it keeps (input 0's as second number, 1's as third), and what it just read
abbrev pub none_kept : ℕ
none_kept = 0

abbrev pub first_read : ℕ
first_read = 1

abbrev pub first_kept_second_read : ℕ
first_kept_second_read = 2

abbrev pub second_kept : ℕ
second_kept = 3

abbrev pub first_kept : ℕ
first_kept = 4

abbrev pub second_kept_first_read : ℕ
second_kept_first_read = 5

-- of equal heads merge writes one and reads both inputs
abbrev pub emit : ℕ → ℕ → Answer
emit x y =
    if nat_lt x y then says second_kept 0 y (Write 0 (Word x)) else
    if nat_lt y x then says first_kept x 0 (Write 0 (Word y)) else
    says none_kept 0 0 (Write 0 (Word x))

abbrev pub merge_answer : List ℕ → List ℕ → Token → Answer
merge_answer args l t =
    if at l 0 == none_kept then says first_read 0 0 (Read 0) else
    if at l 0 == first_read then says first_kept_second_read (word t) 0 (Read 1) else
    if at l 0 == first_kept_second_read then emit (at l 1) (word t) else
    if at l 0 == second_kept then says second_kept_first_read 0 (at l 2) (Read 0) else
    if at l 0 == first_kept then says first_kept_second_read (at l 1) 0 (Read 1) else
    emit (word t) (at l 2)

pub data MergeLine : List ℕ → Option Token → Type 0 where
  merge_reads_first : MergeLine (one none_kept) None
  merge_reads_second : {x : ℕ} → MergeLine (one first_read) (Some (Word x))
  merge_has_second : {x y : ℕ} → MergeLine (two first_kept_second_read x) (Some (Word y))
  merge_refills_first : {y : ℕ} → MergeLine (three second_kept 0 y) None
  merge_refills_second : {x : ℕ} → MergeLine (two first_kept x) None
  merge_has_first : {x y : ℕ} → MergeLine (three second_kept_first_read 0 y) (Some (Word x))
