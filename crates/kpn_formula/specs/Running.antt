-- What a stack in an array stands for.
use Rattle.std.specs.Prelude.{◌≡◌, ℕ, zero, suc, ◌+◌, ◌-◌, ◌/◌, ◌<◌, ◌≤◌, List, ◌∷◌, [], take, drop, set}
use Rattle.kpn_model.specs.declared.kinds.Card.{Card}
use Rattle.kpn_standard.specs.Locals.{at}
use Rattle.kpn_formula.specs.declared.instruction.Instruction.{Instruction}
use Rattle.kpn_formula.specs.declared.running.Stack.{Stack}
use Rattle.kpn_formula.specs.Programs.{Working, executed, last, values_after}
use Rattle.kpn_formula.specs.Cards.{before_end, instruction}
use Rattle.kpn_formula.specs.Reading.{program_at, first_three, HoldsFrom, behind_operands}

-- the first six values, and the word v above those that stand in an array from a place on
abbrev pub working : List ℕ → ℕ → List ℕ → ℕ → Working
working words top values v = record { values = take 6 values; stack = v ∷ drop top words }

-- the first six values, and what a stack holds in an array
abbrev pub held_in : List ℕ → Stack → List ℕ → Working
held_in words stack values = working words stack.top values stack.last

-- from a place on there are zeros
abbrev pub AreZeros : ℕ → List ℕ → Type 0
AreZeros n words = (k : ℕ) → n ≤ k → at words k ≡ 0

-- an array has room for a word below a place, and ends with a zero
pub record HasRoom (size : ℕ) (words : List ℕ) (top : ℕ) : Type 0 where
  pub room : 0 < top
  pub within : top < size
  pub zeros : AreZeros (size - 1) words

-- the stack grew by at most a word, and its array still ends with a zero
pub record PushesOne (size before : ℕ) (words : List ℕ) (top : ℕ) : Type 0 where
  pub room : before ≤ top + 1
  pub within : top < size
  pub zeros : AreZeros (size - 1) words

-- the same values, and the same words on the stack, whatever zeros stand there
pub record IsSame (w v : Working) : Type 0 where
  pub values : w.values ≡ v.values
  pub stack : (k : ℕ) → last w k ≡ last v k

-- the instruction leads from these words, stack and values to the new ones
abbrev pub ExecutesTo : Instruction → List ℕ → Stack → List ℕ → List ℕ → Stack → List ℕ → Type 0
ExecutesTo i words stack values new_words new_stack new_values =
    IsSame (executed i (held_in words stack values)) (held_in new_words new_stack new_values)

-- the instruction of a code, with the operands behind it
abbrev pub decoded : ℕ → ℕ → Instruction
decoded code cursor = instruction code (first_three (cursor / 32))

-- the digits behind an instruction, but an End is not passed
abbrev pub passed : ℕ → ℕ → ℕ
passed zero n = n
passed (suc code) n = behind_operands (suc code) (n / 32)

-- the values after each program whose digits a number holds
abbrev pub RunsFrom : ℕ → List ℕ → List ℕ → Type 0
RunsFrom n values after =
    (card : Card)
    → (p : ℕ) → HoldsFrom card p n → take 6 after ≡ values_after (before_end (program_at card p)) (take 6 values)

-- three words over those from a place on, and four zeros
abbrev pub laid : ℕ → List ℕ → List ℕ → List ℕ
laid p words values = set (set (set values p (at words 0)) (p + 1) (at words 1)) (p + 2) (at words 2)

abbrev pub cleared : ℕ → List ℕ → List ℕ
cleared p values = laid (p + 1) (0 ∷ 0 ∷ 0 ∷ []) (set values p 0)

-- over words that were kept: zeros behind s states, the inputs behind m outputs, and zeros behind n inputs
abbrev pub begun : ℕ → ℕ → ℕ → List ℕ → List ℕ → List ℕ
begun s m n inputs values = laid (s + m + n) (0 ∷ 0 ∷ 0 ∷ []) (laid (s + m) inputs (cleared s values))
