-- The kinds of formulas.
use Rattle.std.specs.Prelude.{ℕ, ◌+◌, ◌-◌, nat_lt, ◌&&◌, if◌then◌else◌, Bool, codes, decimal, bytes_eq, List, [], ◌∷◌, ◌++◌, drop, Option, Some, None}
use Rattle.std.specs.Str.Parse.{digits_value}
use Rattle.kpn_model.specs.declared.kinds.Card.{Card}
use Rattle.kpn_standard.specs.Locals.{at}
use Rattle.kpn_formula.specs.declared.instruction.Instruction.{Instruction}
use Rattle.kpn_formula.specs.Cards.{round_of, opening_of}
use Rattle.kpn_formula.specs.Shapes.{is_kind, states_of, inputs_of, outputs_of}
use Rattle.kpn_formula.specs.Programs.{values_after}

-- word i of the n words from `start` on, and 0 behind them
abbrev pub part : ℕ → ℕ → List ℕ → ℕ → ℕ
part start n words i = if nat_lt i n then at words (start + i) else 0

-- value i of a round: k states, then m outputs, 0 at first, then n inputs, then zeros
abbrev pub value : ℕ → ℕ → ℕ → List ℕ → List ℕ → ℕ → ℕ
value k m n kept inputs i = if nat_lt i (k + m) then part 0 k kept i else part 0 n inputs (i - (k + m))

-- what f gives for the numbers below six
abbrev pub six_of : (ℕ → ℕ) → List ℕ
six_of f = f 0 ∷ f 1 ∷ f 2 ∷ f 3 ∷ f 4 ∷ f 5 ∷ []

abbrev pub values : ℕ → ℕ → ℕ → List ℕ → List ℕ → List ℕ
values k m n kept inputs = six_of (λ i. value k m n kept inputs i)

-- what is kept of values: k states
abbrev pub states_in : ℕ → List ℕ → List ℕ
states_in k words = part 0 k words 0 ∷ part 0 k words 1 ∷ part 0 k words 2 ∷ part 0 k words 3 ∷ []

-- what is made: the m outputs behind k states
abbrev pub outputs_in : ℕ → ℕ → List ℕ → List ℕ
outputs_in k m words = part k m words 0 ∷ part k m words 1 ∷ part k m words 2 ∷ []

-- what is kept and what is made: k states, and the m outputs behind them
abbrev pub results_in : ℕ → ℕ → List ℕ → List ℕ × List ℕ
results_in k m words = (states_in k words, outputs_in k m words)

abbrev pub start : Card → List ℕ
start card = states_in (states_of card.kind) (values_after (opening_of card) (0 ∷ 0 ∷ 0 ∷ 0 ∷ 0 ∷ 0 ∷ []))

-- the values before a round, and after it
abbrev pub values_before : Card → List ℕ → List ℕ → List ℕ
values_before card kept inputs = values (states_of card.kind) (outputs_of card.kind) (inputs_of card.kind) kept inputs

abbrev pub round_values : Card → List ℕ → List ℕ → List ℕ
round_values card kept inputs = values_after (round_of card) (values_before card kept inputs)

abbrev pub step : Card → List ℕ → List ℕ → List ℕ × List ℕ
step card kept inputs = results_in (states_of card.kind) (outputs_of card.kind) (round_values card kept inputs)

-- what a program keeps and makes of words that were kept and read
abbrev pub results : Card → List Instruction → List ℕ → List ℕ → List ℕ × List ℕ
results card program kept inputs =
    let after = values_after program (values_before card kept inputs) in
    (states_in (states_of card.kind) after, outputs_in (states_of card.kind) (outputs_of card.kind) after)

abbrev pub kind_name : ℕ → List ℕ
kind_name n = codes "formula " ++ decimal n

-- the number that stands behind the first eight bytes
abbrev pub number_behind : List ℕ → ℕ
number_behind name = digits_value 10 (drop 8 name)

-- a kind's number, and the number of its arguments
abbrev pub kind_if : Bool → ℕ → Option (ℕ × ℕ)
kind_if found n = if found then Some (n, 3) else None

abbrev pub named_by : ℕ → List ℕ → Option (ℕ × ℕ)
named_by n name = kind_if (bytes_eq name (kind_name n) && is_kind n) n

-- the kind with this name
abbrev pub named : List ℕ → Option (ℕ × ℕ)
named name = named_by (number_behind name) name
