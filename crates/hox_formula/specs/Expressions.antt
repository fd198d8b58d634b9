-- Expressions, and what they are worth.
use Rattle.std.specs.Prelude.{ℕ, ◌==◌, Bool, true, false, ◌&&◌, ◌||◌, not, unsigned_abs, List}
use Rattle.kpn_standard.specs.Locals.{at}
use Rattle.kpn_signals.specs.Words.{signed}
use Rattle.kpn_formula.specs.declared.instruction.Operation.{Operation}
use Rattle.kpn_formula.specs.declared.instruction.Operation.TheVariants.{IsLess}
use Rattle.kpn_formula.specs.Operations.{applied}
use Rattle.kpn_formula.specs.Programs.{chosen, negated}

-- A place is that of a value: states, then outputs, then inputs.
pub data Expression : Type 0 where
  Constant : ℕ → Expression
  Place : ℕ → Expression
  Negation : Expression → Expression
  Size : Expression → Expression
  Both : Expression → Expression → Expression
  Either : Expression → Expression → Expression
  Applied : Operation → Expression → Expression → Expression
  Choice : Expression → Expression → Expression → Expression

-- 1 if a word counts as true, else 0
abbrev pub truth : ℕ → ℕ
truth x = negated (negated x)

abbrev pub value : Expression → List ℕ → ℕ
value (Constant n) vs = n
value (Place k) vs = at vs k
value (Negation e) vs = negated (value e vs)
value (Size e) vs = unsigned_abs (signed (value e vs))
value (Both d e) vs = chosen (value d vs) (truth (value e vs)) 0
value (Either d e) vs = chosen (value d vs) 1 (truth (value e vs))
value (Applied op d e) vs = applied op (value d vs) (value e vs)
value (Choice c d e) vs = chosen (value c vs) (value d vs) (value e vs)

abbrev pub compares : Operation → Bool
compares IsLess = true
compares _ = false

-- it is made of comparisons and of what is true or false, so that it is 1 or 0
abbrev pub is_flag : Expression → Bool
is_flag (Negation e) = true
is_flag (Both d e) = true
is_flag (Either d e) = true
is_flag (Applied op d e) = compares op
is_flag (Choice c d e) = is_flag d && is_flag e
is_flag _ = false

abbrev pub is_place : Expression → Bool
is_place (Place k) = true
is_place _ = false

-- the value at place k is used as a word: elsewhere than as a condition
abbrev pub uses : ℕ → Expression → Bool
uses k (Constant n) = false
uses k (Place j) = j == k
uses k (Negation e) = not (is_place e) && uses k e
uses k (Size e) = uses k e
uses k (Both d e) = (not (is_place d) && uses k d) || (not (is_place e) && uses k e)
uses k (Either d e) = (not (is_place d) && uses k d) || (not (is_place e) && uses k e)
uses k (Applied op d e) = uses k d || uses k e
uses k (Choice c d e) = (not (is_place c) && uses k c) || uses k d || uses k e
