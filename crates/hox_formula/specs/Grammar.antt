-- Which symbols say which expression.
use Rattle.std.specs.Prelude.{◌≡◌, ℕ, ◌+◌, ◌<◌, ◌==◌, nat_lt, if◌then◌else◌, Bool, true, false, List, [], ◌∷◌, ◌++◌, length, Option, Some, None, position}
use Rattle.kpn_formula.specs.declared.instruction.Operation.{Operation}
use Rattle.kpn_formula.specs.declared.instruction.Operation.TheVariants.{Add, Subtract, Multiply, Divide, Remain, ShiftLeft, ShiftRight, And, Or, ExclusiveOr, Min, Max, IsLess}
use Rattle.hox_formula.specs.declared.symbol.Mark.{Mark}
use Rattle.hox_formula.specs.declared.symbol.Mark.TheVariants as mark
use Rattle.hox_formula.specs.declared.symbol.Symbol.{Symbol}
use Rattle.hox_formula.specs.declared.symbol.Symbol.TheVariants.{Number, Input, Output, State}
use Rattle.hox_formula.specs.declared.symbol.Symbol.TheVariants as symbol
use Rattle.hox_formula.specs.Expressions.{Expression, Constant, Place, Negation, Size, Both, Either, Applied, Choice}

-- the states in the order of their first assignment, and how many inputs and outputs there are
pub record Naming : Type 0 where
  pub states : List ℕ
  pub outputs : ℕ
  pub inputs : ℕ

abbrev pub place_of : Naming → Symbol → Option ℕ
place_of names (State i) = position (λ j. j == i) names.states
place_of names (Output k) = if nat_lt k names.outputs then Some (length names.states + k) else None
place_of names (Input k) = if nat_lt k names.inputs then Some (length names.states + names.outputs + k) else None
place_of names _ = None

-- how tightly an operator between two expressions holds them, from 1 on; 0 for what is none
abbrev pub level_of : Mark → ℕ
level_of mark.OrElse = 1
level_of mark.AndAlso = 2
level_of mark.Or = 3
level_of mark.ExclusiveOr = 4
level_of mark.And = 5
level_of mark.Equal = 6
level_of mark.NotEqual = 6
level_of mark.Less = 7
level_of mark.LessEqual = 7
level_of mark.Greater = 7
level_of mark.GreaterEqual = 7
level_of mark.ShiftLeft = 8
level_of mark.ShiftRight = 8
level_of mark.Plus = 9
level_of mark.Minus = 9
level_of mark.Times = 10
level_of mark.Divide = 10
level_of mark.Remain = 10
level_of _ = 0

-- what such an operator makes
abbrev pub joined : Mark → Expression → Expression → Expression
joined mark.OrElse d e = Either d e
joined mark.AndAlso d e = Both d e
joined mark.Or d e = Applied Or d e
joined mark.ExclusiveOr d e = Applied ExclusiveOr d e
joined mark.And d e = Applied And d e
joined mark.Equal d e = Negation (Applied Subtract d e)
joined mark.NotEqual d e = Negation (Negation (Applied Subtract d e))
joined mark.Less d e = Applied IsLess d e
joined mark.Greater d e = Applied IsLess e d
joined mark.LessEqual d e = Negation (Applied IsLess e d)
joined mark.GreaterEqual d e = Negation (Applied IsLess d e)
joined mark.ShiftLeft d e = Applied ShiftLeft d e
joined mark.ShiftRight d e = Applied ShiftRight d e
joined mark.Plus d e = Applied Add d e
joined mark.Minus d e = Applied Subtract d e
joined mark.Times d e = Applied Multiply d e
joined mark.Divide d e = Applied Divide d e
joined mark.Remain d e = Applied Remain d e
joined _ d e = d

-- what stands in front of an expression
abbrev pub is_front : Mark → Bool
is_front mark.Minus = true
is_front mark.Invert = true
is_front mark.Not = true
is_front _ = false

abbrev pub fronted : Mark → Expression → Expression
fronted mark.Minus e = Applied Subtract (Constant 0) e
fronted mark.Invert e = Applied ExclusiveOr e (Constant 18446744073709551615)
fronted mark.Not e = Negation e
fronted _ e = e

-- what is called with two expressions
abbrev pub called : Mark → Option Operation
called mark.Min = Some Min
called mark.Max = Some Max
called _ = None

abbrev pub sign : Mark → Symbol
sign m = symbol.Mark m

-- two expressions in parentheses behind a mark
abbrev pub call_of_two : Mark → List Symbol → List Symbol → List Symbol
call_of_two m xs ys = sign m ∷ sign mark.Open ∷ xs ++ (sign mark.Comma ∷ ys ++ (sign mark.Close ∷ []))

-- Level 0 is that of a choice, 1 to 10 are those of operators between two expressions, 11 is that of operators in
-- front, and 12 that of what holds together by itself.
pub data Says (names : Naming) : ℕ → List Symbol → Expression → Type 0 where
  number : (n : ℕ) → Says names 12 (Number n ∷ []) (Constant n)
  name : (s : Symbol) (k : ℕ) → place_of names s ≡ Some k → Says names 12 (s ∷ []) (Place k)
  nested : (xs : List Symbol) (e : Expression)
      → Says names 0 xs e → Says names 12 (sign mark.Open ∷ xs ++ (sign mark.Close ∷ [])) e
  absolute : (xs : List Symbol) (e : Expression)
      → Says names 0 xs e → Says names 12 (sign mark.Abs ∷ sign mark.Open ∷ xs ++ (sign mark.Close ∷ [])) (Size e)
  call : (m : Mark) (op : Operation) (xs ys : List Symbol) (d e : Expression)
      → called m ≡ Some op → Says names 0 xs d → Says names 0 ys e
      → Says names 12 (call_of_two m xs ys) (Applied op d e)
  front : (m : Mark) (xs : List Symbol) (e : Expression)
      → is_front m ≡ true → Says names 11 xs e → Says names 11 (sign m ∷ xs) (fronted m e)
  between : (m : Mark) (level : ℕ) (xs ys : List Symbol) (d e : Expression)
      → 0 < level → level_of m ≡ level → Says names level xs d → Says names (level + 1) ys e
      → Says names level (xs ++ (sign m ∷ ys)) (joined m d e)
  choice : (xs ys zs : List Symbol) (c d e : Expression)
      → Says names 1 xs c → Says names 0 ys d → Says names 0 zs e
      → Says names 0 (xs ++ (sign mark.Question ∷ ys ++ (sign mark.Colon ∷ zs))) (Choice c d e)
  tighter : (level : ℕ) (xs : List Symbol) (e : Expression) → Says names (level + 1) xs e → Says names level xs e
