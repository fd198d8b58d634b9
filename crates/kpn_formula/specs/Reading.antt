-- Where the instructions of a card stand.
use Rattle.std.specs.Prelude.{◌≡◌, ℕ, ◌+◌, ◌/◌, ◌%◌, ◌^◌, ◌<◌, false, List, [], ◌∷◌, length, drop, get_or}
use Rattle.kpn_model.specs.declared.kinds.Card.{Card}
use Rattle.kpn_formula.specs.declared.instruction.Instruction.{Instruction}
use Rattle.kpn_formula.specs.declared.instruction.Instruction.TheVariants.{Shift, Load, Store}
use Rattle.kpn_formula.specs.Cards.{digit, digits, instruction, operands, instructions, is_end, before_end, after_end}

-- the instructions from digit p on
abbrev pub program_at : Card → ℕ → List Instruction
program_at card p = instructions 0 (drop p (digits card))

-- a digit says no shift of 64 or more, and no place that there isn't
abbrev pub IsReadable : Instruction → Type 0
IsReadable (Shift n) = n < 64
IsReadable (Load k) = k < 6
IsReadable (Store k) = k < 6
IsReadable _ = Unit {0}

-- where the instruction with a code at digit p ends
abbrev pub behind : ℕ → ℕ → ℕ
behind p code = p + 1 + operands code

-- at digit p stands an instruction with this code
pub record StandsAt (card : Card) (p code : ℕ) : Type 0 where
  pub is : program_at card p ≡ instruction code (drop (p + 1) (digits card)) ∷ program_at card (behind p code)
  pub goes_on : is_end (instruction code (drop (p + 1) (digits card))) ≡ false
  pub within : p < 36

-- at digit p stands an End, or nothing
pub record EndsAt (card : Card) (p : ℕ) : Type 0 where
  pub before : before_end (program_at card p) ≡ []
  pub after : after_end (program_at card p) ≡ program_at card (p + 1)

-- the digits of a number, the first least, are those of a card from digit p on
pub record HoldsFrom (card : Card) (p n : ℕ) : Type 0 where
  pub arguments : length card.args ≡ 3
  pub digits : (k : ℕ) → digit card (p + k) ≡ n / 32 ^ k % 32

abbrev pub first_three : ℕ → List ℕ
first_three n = n % 32 ∷ n / 32 % 32 ∷ n / 1024 % 32 ∷ []

-- the digits behind the operands of a code
abbrev pub behind_operands : ℕ → ℕ → ℕ
behind_operands code n = get_or (n ∷ n / 32 ∷ n / 32768 ∷ n / 32768 ∷ n / 32 ∷ []) code n

-- the first digit is this code, and no End
pub record IsCode (n code : ℕ) : Type 0 where
  pub is : code ≡ n % 32
  pub small : code < 32
  pub goes_on : code ≡ 0 → ⊥
