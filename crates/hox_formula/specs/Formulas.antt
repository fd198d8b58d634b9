-- Which symbols say which formula, and what that means.
use Rattle.std.specs.Prelude.{◌≡◌, ℕ, ◌<◌, ◌==◌, ◌||◌, nat_lt, Bool, true, false, if◌then◌else◌, List, [], ◌∷◌, ◌++◌, Option, Some, None, set, map, replicate, length, unwrap_or, ◌+◌, ◌-◌, ◌&&◌, not, get_or}
use Rattle.std.specs.List.{list_any}
use Rattle.kpn_model.specs.declared.token.Sort.{Sort}
use Rattle.kpn_model.specs.declared.token.Sort.TheVariants.{Words, Flags}
use Rattle.kpn_model.specs.declared.kinds.Card.{Card}
use Rattle.kpn_formula.specs.declared.shape.Shape.{Shape}
use Rattle.kpn_formula.specs.Programs.{values_after}
use Rattle.kpn_formula.specs.Cards.{round_of, opening_of}
use Rattle.kpn_formula.specs.Shapes.{shape_of}
use Rattle.kpn_signals.specs.Arithmetic.{difference}
use Rattle.hox_formula.specs.declared.symbol.Mark.TheVariants as mark
use Rattle.hox_formula.specs.declared.symbol.Symbol.{Symbol}
use Rattle.hox_formula.specs.declared.symbol.Symbol.TheVariants.{Number, Input, Output, State}
use Rattle.hox_formula.specs.declared.left_side.LeftSide.{LeftSide}
use Rattle.hox_formula.specs.Expressions.{Expression, value, is_flag, uses}
use Rattle.hox_formula.specs.Grammar.{Naming, Says, place_of, sign}

-- an assignment: to what and with which start value, the place of that, and what it becomes
pub record Line : Type 0 where
  pub head : LeftSide
  pub place : ℕ
  pub expression : Expression

-- the values after the assignments, one after the other
abbrev pub after : List Line → List ℕ → List ℕ
after [] vs = vs
after (l ∷ ls) vs = after ls (set vs l.place (value l.expression vs))

-- state i, which begins with n
abbrev pub state_from : ℕ → ℕ → LeftSide
state_from i n = record { target = State i; start = Some n }

-- state i, with the number -n in parentheses
abbrev pub with_negative : ℕ → ℕ → List Symbol
with_negative i n = State i ∷ sign mark.Open ∷ sign mark.Minus ∷ Number n ∷ sign mark.Close ∷ []

-- symbols say to what a line assigns, and the start value
pub data SaysHead : List Symbol → LeftSide → Type 0 where
  output : (k : ℕ) → SaysHead (Output k ∷ []) (record { target = Output k; start = None })
  state : (i : ℕ) → SaysHead (State i ∷ []) (record { target = State i; start = None })
  started : (i n : ℕ) → SaysHead (State i ∷ sign mark.Open ∷ Number n ∷ sign mark.Close ∷ []) (state_from i n)
  below : (i n : ℕ) → SaysHead (with_negative i n) (state_from i (difference 0 n))

-- symbols say a line, without the `;` behind it
pub record SaysLine (names : Naming) (symbols : List Symbol) (l : Line) : Type 0 where
  pub before : List Symbol
  pub behind : List Symbol
  pub split : symbols ≡ before ++ (sign mark.Assign ∷ behind)
  pub head : SaysHead before l.head
  pub place : place_of names l.head.target ≡ Some l.place
  pub says : Says names 0 behind l.expression

-- lines, each with a `;` behind it
pub data SaysLines (names : Naming) : List Symbol → List Line → Type 0 where
  none : SaysLines names [] []
  line : (xs ys : List Symbol) (l : Line) (ls : List Line)
      → SaysLine names xs l → SaysLines names ys ls → SaysLines names (xs ++ (sign mark.Semicolon ∷ ys)) (l ∷ ls)

abbrev pub head_of : Line → LeftSide
head_of l = l.head

abbrev pub target_of : LeftSide → Symbol
target_of h = h.target

abbrev pub is_input : ℕ → Symbol → Bool
is_input k (Input j) = j == k
is_input k _ = false

abbrev pub is_output : ℕ → Symbol → Bool
is_output k (Output j) = j == k
is_output k _ = false

-- the ports that there are: 0, 1 and so on, without gaps
abbrev pub AreFirst : ℕ → (ℕ → Bool) → Type 0
AreFirst n there = (k : ℕ) → k < 3 → there k ≡ nat_lt k n

-- the states in the order of their first assignment
abbrev pub with_state : List ℕ → Symbol → List ℕ
with_state states (State i) = if list_any (λ j. j == i) states then states else states ++ (i ∷ [])
with_state states _ = states

abbrev pub with_states : List ℕ → List Symbol → List ℕ
with_states states [] = states
with_states states (s ∷ ss) = with_states (with_state states s) ss

abbrev pub states_of : List Symbol → List ℕ
states_of targets = with_states [] targets

-- the names are those of the formula's lines and inputs
pub record IsNaming (names : Naming) (symbols targets : List Symbol) : Type 0 where
  pub states : names.states ≡ states_of targets
  pub outputs : AreFirst names.outputs (λ k. list_any (is_output k) targets)
  pub inputs : AreFirst names.inputs (λ k. list_any (is_input k) symbols)

-- the value at place k is used as a word in some line
abbrev pub uses_in : ℕ → List Line → Bool
uses_in k [] = false
uses_in k (l ∷ ls) = uses k l.expression || uses_in k ls

-- output k becomes flags alone
abbrev pub gives_flags : ℕ → List Line → Bool
gives_flags k [] = true
gives_flags k (l ∷ ls) = (not (is_output k l.head.target) || is_flag l.expression) && gives_flags k ls

-- what state i is at first: what its first assignment says, else 0
abbrev pub is_state : ℕ → Symbol → Bool
is_state i (State j) = j == i
is_state i _ = false

abbrev pub first_start : List LeftSide → ℕ → ℕ
first_start [] i = 0
first_start (h ∷ hs) i = if is_state i h.target then unwrap_or h.start 0 else first_start hs i

-- the symbols say these lines, with these names; a last `;` stands there
pub record IsFormula (names : Naming) (symbols : List Symbol) (lines : List Line) : Type 0 where
  pub naming : IsNaming names symbols (map target_of (map head_of lines))
  pub says : SaysLines names symbols lines

-- the sort of an input: words if some line uses its value as a word
abbrev pub input_sort : Naming → List Line → ℕ → Sort
input_sort names lines k = if uses_in (length names.states + names.outputs + k) lines then Words else Flags

-- the sorts of the ports
abbrev pub in_sort : Naming → List Line → ℕ → Option Sort
in_sort names lines k = if nat_lt k names.inputs then Some (input_sort names lines k) else None

abbrev pub out_sort : Naming → List Line → ℕ → Option Sort
out_sort names lines k = if nat_lt k names.outputs then Some (if gives_flags k lines then Flags else Words) else None

abbrev pub each_port : (ℕ → Option Sort) → List (Option Sort)
each_port sort = sort 0 ∷ sort 1 ∷ sort 2 ∷ []

-- which values are used as words, and which outputs become flags alone
abbrev pub AreWordsOf : List Bool → List Line → Type 0
AreWordsOf words lines = (place : ℕ) → place < 6 → get_or words place false ≡ uses_in place lines

abbrev pub AreFlagsOf : List Bool → List Line → Type 0
AreFlagsOf flags lines = (j : ℕ) → j < 3 → get_or flags j true ≡ gives_flags j lines

-- the shape of the formula, and its first values
abbrev pub formula_shape : Naming → List Line → Shape
formula_shape names lines =
    record {
      states = length names.states;
      ins = each_port (in_sort names lines);
      outs = each_port (out_sort names lines);
    }

abbrev pub first_values : Naming → List Line → List ℕ
first_values names lines =
    map (first_start (map head_of lines)) names.states ++ replicate (6 - length names.states) 0

-- the shape is that of the formula with such lines
abbrev pub IsShapeOf : Naming → List Bool → List Bool → Shape → Type 0
IsShapeOf names words flags shape =
    (lines : List Line) → AreWordsOf words lines → AreFlagsOf flags lines → shape ≡ formula_shape names lines

-- the card is that of the formula
pub record IsCompiled (names : Naming) (lines : List Line) (card : Card) : Type 0 where
  pub round : (vs : List ℕ) → values_after (round_of card) vs ≡ after lines vs
  pub opening : values_after (opening_of card) (replicate 6 0) ≡ first_values names lines
  pub shaped : shape_of card ≡ Some (formula_shape names lines)

-- the symbols say a formula, and the card is that of it
abbrev pub IsCardOfSymbols : List Symbol → Card → Type 0
IsCardOfSymbols symbols card =
    (names : Naming) × (lines : List Line) × IsFormula names symbols lines × IsCompiled names lines card
