-- Which card is that of a text.
use Rattle.std.specs.Prelude.{◌≡◌, ℕ, List, [], ◌∷◌, ◌++◌}
use Rattle.kpn_model.specs.declared.kinds.Card.{Card}
use Rattle.hox_formula.specs.declared.symbol.Mark.TheVariants as mark
use Rattle.hox_formula.specs.declared.symbol.Symbol.{Symbol}
use Rattle.hox_formula.specs.Grammar.{Naming, sign}
use Rattle.hox_formula.specs.Formulas.{Line, IsFormula, IsCompiled}
use Rattle.hox_formula.specs.Lexing.{Spells}

-- nothing, or a `;`
abbrev pub IsTail : List Symbol → Type 0
IsTail [] = Unit {0}
IsTail (s ∷ []) = s ≡ sign mark.Semicolon
IsTail _ = ⊥

-- The text spells symbols that say a formula, once a last `;` is added if left out; the card is that of the formula.
pub record IsCardOfText (text : List ℕ) (card : Card) : Type 0 where
  pub table : List (List ℕ)
  pub symbols : List Symbol
  pub tail : List Symbol
  pub names : Naming
  pub lines : List Line
  pub spells : Spells table text symbols
  pub is_tail : IsTail tail
  pub formula : IsFormula names (symbols ++ tail) lines
  pub compiled : IsCompiled names lines card

-- the symbols, with a last `;` if it is left out
abbrev pub Ends : List Symbol → List Symbol → Type 0
Ends symbols all = (tail : List Symbol) × IsTail tail × (all ≡ symbols ++ tail)
