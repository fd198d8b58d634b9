-- Code that computes an expression.
use Rattle.std.specs.Prelude.{◌≡◌, ℕ, ◌<◌, Bool, false, List, ◌∷◌, ◌++◌, Option, Some, None, IfSome, get_or, not, ◌&&◌}
use Rattle.kpn_formula.specs.declared.instruction.Instruction.{Instruction}
use Rattle.kpn_formula.specs.declared.instruction.Operation.{Operation}
use Rattle.kpn_formula.specs.Operations.{applied}
use Rattle.kpn_formula.specs.Programs.{Working, executed, run}
use Rattle.hox_formula.specs.declared.fragment.Facts.{Facts}
use Rattle.hox_formula.specs.declared.fragment.Fragment.{Fragment}
use Rattle.hox_formula.specs.Expressions.{Expression, Applied, Choice, value, is_flag, is_place, uses}

abbrev pub working : List ℕ → List ℕ → Working
working vs stack = record { values = vs; stack = stack }

-- the code pushes what the expression is worth, and changes nothing else, whatever follows
pub record Computes (code : List Instruction) (e : Expression) : Type 0 where
  pub runs : (rest : List Instruction) (vs stack : List ℕ)
      → run (code ++ rest) (working vs stack) ≡ run rest (working vs (value e vs ∷ stack))

-- the instruction does what the operation does with this second word
abbrev pub StandsFor : Operation → Option ℕ → Instruction → Type 0
StandsFor op (Some n) i =
    (vs stack : List ℕ) (x : ℕ)
    → executed i (working vs (x ∷ stack)) ≡ working vs (applied op x n ∷ stack)
StandsFor op None i = ⊥

-- the facts are those of the expression
pub record Knows (facts : Facts) (e : Expression) : Type 0 where
  pub number : IfSome facts.number (λ n. (vs : List ℕ) → value e vs ≡ n)
  pub is_flag : facts.is_flag ≡ is_flag e
  pub is_place : facts.is_place ≡ is_place e
  pub words : (k : ℕ) → k < 6 → get_or facts.words k false ≡ uses k e

pub record Means (fragment : Fragment) (e : Expression) : Type 0 where
  pub computes : Computes fragment.code.items e
  pub knows : Knows fragment.facts e

-- of what the first and the second mean, the fragment means what is made of both
abbrev pub MeansJoined : (Expression → Expression → Expression) → Fragment → Fragment → Fragment → Type 0
MeansJoined make first second f = (d e : Expression) → Means first d → Means second e → Means f (make d e)

-- of what the three mean, the fragment means their choice
abbrev pub MeansChoice : Fragment → Fragment → Fragment → Fragment → Type 0
MeansChoice condition first second f =
    (c d e : Expression) → Means condition c → Means first d → Means second e → Means f (Choice c d e)

-- the code computes the operation on what the first code computes and the second means
abbrev pub ComputesApplied : Operation → List Instruction → Fragment → List Instruction → Type 0
ComputesApplied operation first second code =
    (d e : Expression) → Computes first d → Means second e → Computes code (Applied operation d e)

-- the value at place k is used as a word by the expression as a condition
abbrev pub uses_in_condition : ℕ → Expression → Bool
uses_in_condition k e = not (is_place e) && uses k e
