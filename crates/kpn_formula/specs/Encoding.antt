-- Programs that fit a card.
use Rattle.std.specs.Prelude.{◌≡◌, ◌⊎◌, ℕ, ◌+◌, ◌-◌, ◌^◌, ◌<◌, ◌≤◌, nat_lt, if◌then◌else◌, true, false, List, [], ◌∷◌, All, sum_by, Some}
use Rattle.kpn_model.specs.declared.kinds.Card.{Card}
use Rattle.kpn_formula.specs.declared.instruction.Instruction.{Instruction}
use Rattle.kpn_formula.specs.declared.instruction.Instruction.TheVariants.{End, Push, Times, Shift, Load, Store}
use Rattle.kpn_formula.specs.declared.shape.Shape.{Shape}
use Rattle.kpn_formula.specs.declared.encoding.Excess.{Excess}
use Rattle.kpn_formula.specs.declared.encoding.Excess.TheVariants.{NotAllowed, Digits}
use Rattle.kpn_formula.specs.Cards.{round_of, opening_of}
use Rattle.kpn_formula.specs.Shapes.{is_allowed, shape_of}

-- a word of 15 bits in two's complement
abbrev pub IsShort : ℕ → Type 0
IsShort v = (v < 2 ^ 14) ⊎ ((2 ^ 64 - 2 ^ 14 ≤ v) × (v < 2 ^ 64))

abbrev pub IsEncodable : Instruction → Type 0
IsEncodable End = ⊥
IsEncodable (Push v) = IsShort v
IsEncodable (Times v) = IsShort v
IsEncodable (Shift n) = n < 32
IsEncodable (Load k) = k < 6
IsEncodable (Store k) = k < 5
IsEncodable _ = Unit {0}

abbrev pub AreEncodable : List Instruction → Type 0
AreEncodable is = All IsEncodable is

-- how many digits an instruction takes
abbrev pub width : Instruction → ℕ
width (Push v) = if nat_lt v 32 then 2 else 4
width (Times v) = 4
width (Shift n) = 2
width _ = 1

-- how many digits a program takes
abbrev pub size : List Instruction → ℕ
size is = sum_by width is

-- an opening takes one digit more, for the End before it
abbrev pub opening_size : List Instruction → ℕ
opening_size [] = 0
opening_size (i ∷ is) = 1 + size (i ∷ is)

abbrev pub digits_needed : List Instruction → List Instruction → ℕ
digits_needed round opening = size round + opening_size opening

-- the card has this shape and these programs, for which it has room
pub record IsCardOf (shape : Shape) (round opening : List Instruction) (card : Card) : Type 0 where
  pub shaped : shape_of card ≡ Some shape
  pub room : digits_needed round opening ≤ 36
  pub round_is : round_of card ≡ round
  pub opening_is : opening_of card ≡ opening

-- why there is no such card: the shape first, then the digits beyond 36
abbrev pub IsExcess : Shape → ℕ → Excess → Type 0
IsExcess shape needed NotAllowed = is_allowed shape ≡ false
IsExcess shape needed (Digits by) = (is_allowed shape ≡ true) × (0 < by) × (36 + by ≡ needed)

-- why no card of this shape has these programs
abbrev pub HasExcess : Shape → List Instruction → List Instruction → Excess → Type 0
HasExcess shape round opening excess = IsExcess shape (digits_needed round opening) excess
