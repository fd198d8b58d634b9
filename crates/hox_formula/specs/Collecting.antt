-- Lines that were read.
use Rattle.std.specs.Prelude.{◌≡◌, ℕ, ◌<◌, Bool, false, true, not, ◌&&◌, ◌||◌, List, [], ◌∷◌, ◌++◌, map, get_or}
use Rattle.kpn_formula.specs.declared.instruction.Instruction.{Instruction}
use Rattle.kpn_formula.specs.declared.instruction.Instruction.TheVariants.{Store}
use Rattle.kpn_formula.specs.Programs.{run}
use Rattle.hox_formula.specs.declared.symbol.Symbol.{Symbol}
use Rattle.hox_formula.specs.declared.left_side.LeftSide.{LeftSide}
use Rattle.hox_formula.specs.declared.lines.Assignment.{Assignment}
use Rattle.hox_formula.specs.declared.lines.Lines.{Lines}
use Rattle.hox_formula.specs.Grammar.{Naming}
use Rattle.hox_formula.specs.Fragments.{working, Means}
use Rattle.hox_formula.specs.Formulas.{IsNaming, Line, SaysHead, SaysLine, SaysLines, after, head_of, is_output, target_of, uses_in, gives_flags}

-- the symbols before those that are left say to what a line assigns
pub record HeadRead (symbols left : List Symbol) (head : LeftSide) : Type 0 where
  pub taken : List Symbol
  pub split : symbols ≡ taken ++ left
  pub says : SaysHead taken head

pub record LineRead (names : Naming) (symbols left : List Symbol) (a : Assignment) : Type 0 where
  pub taken : List Symbol
  pub line : Line
  pub split : symbols ≡ taken ++ left
  pub says : SaysLine names taken line
  pub head : a.head ≡ line.head
  pub place : a.place ≡ line.place
  pub means : Means a.fragment line.expression

-- the code does what the lines say
abbrev pub Performs : List Instruction → List Line → Type 0
Performs code lines =
    (rest : List Instruction) (vs : List ℕ)
    → run (code ++ rest) (working vs []) ≡ run rest (working (after lines vs) [])

pub record LinesRead (names : Naming) (symbols : List Symbol) (r : Lines) : Type 0 where
  pub lines : List Line
  pub says : SaysLines names symbols lines
  pub performs : Performs r.code.items lines
  pub heads : r.heads.items ≡ map head_of lines
  pub words : (k : ℕ) → k < 6 → get_or r.words k false ≡ uses_in k lines
  pub flags : (k : ℕ) → k < 3 → get_or r.flags k true ≡ gives_flags k lines

-- a value is used as a word by the line or by the others
abbrev pub is_used_word : ℕ → Assignment → Lines → Bool
is_used_word k line others = get_or line.fragment.facts.words k false || get_or others.words k false

-- the line gives output k flags, if anything
abbrev pub leaves_flags : ℕ → Assignment → Bool
leaves_flags k line = not (is_output k line.head.target) || line.fragment.facts.is_flag

-- these are the line and then the others
abbrev pub IsWithLine : Assignment → Lines → Lines → Type 0
IsWithLine line others r =
    (r.code.items ≡ line.fragment.code.items ++ (Store line.place ∷ others.code.items))
    × (r.heads.items ≡ line.head ∷ others.heads.items)
    × ((k : ℕ) → k < 6 → get_or r.words k false ≡ is_used_word k line others)
    × ((k : ℕ) → k < 3 → get_or r.flags k true ≡ (leaves_flags k line && get_or others.flags k true))

-- the symbols say the lines that were read, and the names are those of the formula
abbrev pub IsFormulaRead : Naming → List Symbol → Lines → Type 0
IsFormulaRead names symbols r =
    (read : LinesRead names symbols r) × IsNaming names symbols (map target_of (map head_of read.lines))
