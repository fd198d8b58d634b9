-- The digits that an encoder writes.
use Rattle.std.specs.Prelude.{ℕ, ◌+◌, ◌-◌, ◌*◌, ◌/◌, ◌%◌, ◌<◌, nat_lt, if◌then◌else◌, List, [], ◌∷◌, ◌++◌, length, take, drop, replicate, flat_map}
use Rattle.kpn_formula.specs.declared.instruction.Operation.{Operation}
use Rattle.kpn_formula.specs.declared.instruction.Operation.TheVariants.{Add, Subtract, Multiply, Divide, Remain, ShiftLeft, ShiftRight, And, Or, ExclusiveOr, Min, Max, IsLess}
use Rattle.kpn_formula.specs.declared.instruction.Instruction.{Instruction}
use Rattle.kpn_formula.specs.declared.instruction.Instruction.TheVariants.{End, Push, Times, Shift, Not, Abs, Choose, Apply, Load, Store}

abbrev pub code_of : Operation → ℕ
code_of Add = 8
code_of Subtract = 9
code_of Multiply = 10
code_of Divide = 11
code_of Remain = 12
code_of ShiftLeft = 13
code_of ShiftRight = 14
code_of And = 15
code_of Or = 16
code_of ExclusiveOr = 17
code_of Min = 18
code_of Max = 19
code_of IsLess = 20

-- the last fifteen bits of a word as digits
abbrev pub short_digits : ℕ → List ℕ
short_digits v = v % 32 ∷ v / 32 % 32 ∷ v / 1024 % 32 ∷ []

abbrev pub push_digits : ℕ → List ℕ
push_digits v = if nat_lt v 32 then 1 ∷ v ∷ [] else 2 ∷ short_digits v

-- the digits of an instruction
abbrev pub spelled : Instruction → List ℕ
spelled End = 0 ∷ []
spelled (Push v) = push_digits v
spelled (Times v) = 3 ∷ short_digits v
spelled (Shift n) = 4 ∷ n ∷ []
spelled Not = 5 ∷ []
spelled Abs = 6 ∷ []
spelled Choose = 7 ∷ []
spelled (Apply op) = code_of op ∷ []
spelled (Load k) = (21 + k) ∷ []
spelled (Store k) = (27 + k) ∷ []

-- the digits of a program
abbrev pub spelling : List Instruction → List ℕ
spelling is = flat_map spelled is

-- the number of digits, the least first
abbrev pub packed : List ℕ → ℕ
packed [] = 0
packed (d ∷ ds) = d + 32 * packed ds

abbrev pub IsDigit : ℕ → Type 0
IsDigit d = d < 32

-- digits with zeros behind them, 36 in all
abbrev pub filled : List ℕ → List ℕ
filled ds = ds ++ replicate (36 - length ds) 0

-- the arguments that have these 36 digits
abbrev pub args_of : List ℕ → List ℕ
args_of ds = packed (take 12 ds) ∷ packed (take 12 (drop 12 ds)) ∷ packed (take 12 (drop 24 ds)) ∷ []

-- the digits of a round and an opening, with an End between them if there is an opening
abbrev pub opening_digits : List Instruction → List ℕ
opening_digits [] = []
opening_digits (i ∷ is) = 0 ∷ spelling (i ∷ is)

abbrev pub spelling_of : List Instruction → List Instruction → List ℕ
spelling_of round opening = spelling round ++ opening_digits opening
