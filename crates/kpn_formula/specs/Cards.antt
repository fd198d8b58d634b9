-- The program that a card holds.
use Rattle.std.specs.Prelude.{ℕ, zero, suc, ◌+◌, ◌-◌, ◌*◌, ◌/◌, ◌%◌, ◌^◌, nat_lt, if◌then◌else◌, Bool, true, false, List, [], ◌∷◌, get_or}
use Rattle.kpn_model.specs.declared.kinds.Card.{Card}
use Rattle.kpn_standard.specs.Locals.{at}
use Rattle.kpn_formula.specs.declared.instruction.Operation.TheVariants.{Add, Subtract, Multiply, Divide, Remain, ShiftLeft, ShiftRight, And, Or, ExclusiveOr, Min, Max, IsLess}
use Rattle.kpn_formula.specs.declared.instruction.Instruction.{Instruction}
use Rattle.kpn_formula.specs.declared.instruction.Instruction.TheVariants.{End, Push, Times, Shift, Not, Abs, Choose, Apply, Load, Store}

-- digit i: each argument has twelve digits of five bits, the least first
abbrev pub digit : Card → ℕ → ℕ
digit card i = at card.args (i / 12) / 32 ^ (i % 12) % 32

-- n digits, from digit i on
abbrev pub digits_from : Card → ℕ → ℕ → List ℕ
digits_from card i zero = []
digits_from card i (suc n) = digit card i ∷ digits_from card (i + 1) n

-- the digits of a card
unfoldable pub digits : Card → List ℕ
digits card = digits_from card 0 36

-- the first three digits as a number, the least first
abbrev pub three : List ℕ → ℕ
three ds = at ds 0 + 32 * at ds 1 + 1024 * at ds 2

-- the word of a number of 15 bits in two's complement
abbrev pub extended : ℕ → ℕ
extended n = if nat_lt n (2 ^ 14) then n else n + (2 ^ 64 - 2 ^ 15)

-- the instruction of each code, if it stands before digits ds
abbrev pub meanings : List ℕ → List Instruction
meanings ds =
    End
    ∷ Push (at ds 0)
    ∷ Push (extended (three ds))
    ∷ Times (extended (three ds))
    ∷ Shift (at ds 0)
    ∷ Not
    ∷ Abs
    ∷ Choose
    ∷ Apply Add
    ∷ Apply Subtract
    ∷ Apply Multiply
    ∷ Apply Divide
    ∷ Apply Remain
    ∷ Apply ShiftLeft
    ∷ Apply ShiftRight
    ∷ Apply And
    ∷ Apply Or
    ∷ Apply ExclusiveOr
    ∷ Apply Min
    ∷ Apply Max
    ∷ Apply IsLess
    ∷ Load 0
    ∷ Load 1
    ∷ Load 2
    ∷ Load 3
    ∷ Load 4
    ∷ Load 5
    ∷ Store 0
    ∷ Store 1
    ∷ Store 2
    ∷ Store 3
    ∷ Store 4
    ∷ []

abbrev pub instruction : ℕ → List ℕ → Instruction
instruction code ds = get_or (meanings ds) code End

-- how many digits behind a code belong to its instruction
abbrev pub operands : ℕ → ℕ
operands code = get_or (0 ∷ 1 ∷ 3 ∷ 3 ∷ 1 ∷ []) code 0

-- the instructions of digits, the first n of which are operands of an instruction before
abbrev pub instructions : ℕ → List ℕ → List Instruction
instructions n [] = []
instructions zero (d ∷ ds) = instruction d ds ∷ instructions (operands d) ds
instructions (suc n) (d ∷ ds) = instructions n ds

abbrev pub is_end : Instruction → Bool
is_end End = true
is_end _ = false

-- the instructions before the first End, and those after it
abbrev pub before_end : List Instruction → List Instruction
before_end [] = []
before_end (i ∷ is) = if is_end i then [] else i ∷ before_end is

abbrev pub after_end : List Instruction → List Instruction
after_end [] = []
after_end (i ∷ is) = if is_end i then is else after_end is

-- what a process of a card runs in each round
abbrev pub round_of : Card → List Instruction
round_of card = before_end (instructions 0 (digits card))

-- what it runs once, at first
abbrev pub opening_of : Card → List Instruction
opening_of card = before_end (after_end (instructions 0 (digits card)))
