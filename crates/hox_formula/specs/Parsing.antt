-- What a part of the symbols says.
use Rattle.std.specs.Prelude.{◌≡◌, ℕ, List, ◌++◌, ◌∷◌, Some}
use Rattle.kpn_formula.specs.declared.instruction.Operation.{Operation}
use Rattle.hox_formula.specs.declared.symbol.Mark.{Mark}
use Rattle.hox_formula.specs.declared.symbol.Mark.TheVariants as mark
use Rattle.hox_formula.specs.declared.symbol.Symbol.{Symbol}
use Rattle.hox_formula.specs.declared.names.Names.{Names}
use Rattle.hox_formula.specs.declared.fragment.Fragment.{Fragment}
use Rattle.hox_formula.specs.Expressions.{Expression}
use Rattle.hox_formula.specs.Grammar.{Naming, Says, called, sign}
use Rattle.hox_formula.specs.Fragments.{Means}

abbrev pub naming : Names → Naming
naming names = record { states = names.states.items; outputs = names.outputs; inputs = names.inputs }

-- the symbols before those that are left say an expression, which the code computes
pub record Parsed (names : Naming) (level : ℕ) (symbols left : List Symbol) (fragment : Fragment) : Type 0 where
  pub taken : List Symbol
  pub expression : Expression
  pub split : symbols ≡ taken ++ left
  pub says : Says names level taken expression
  pub means : Means fragment expression

-- behind a condition and a `?` these symbols are parsed as the rest of a choice
abbrev pub ParsesChoice : Naming → Fragment → List Symbol → List Symbol → Fragment → Type 0
ParsesChoice names condition symbols left fragment =
    (xs : List Symbol) (c : Expression)
    → Says names 1 xs c → Means condition c
    → Parsed names 0 (xs ++ (sign mark.Question ∷ symbols)) left fragment

-- behind a mark that calls this operation these symbols are parsed as the rest of a call
abbrev pub ParsesCall : Naming → Mark → Operation → List Symbol → List Symbol → Fragment → Type 0
ParsesCall names m operation symbols left fragment =
    called m ≡ Some operation → Parsed names 12 (sign m ∷ symbols) left fragment
