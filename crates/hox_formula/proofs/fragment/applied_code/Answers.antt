use Rattle.std.proofs.Common.{◌≡◌, ℕ, List, [], ◌∷◌, ◌++◌, Option, Some, None, IfSome}
use Rattle.std.proofs.lemmas.Result.{IfOk-weaker}
use Rattle.kpn_formula.specs.declared.instruction.Instruction.{Instruction}
use Rattle.kpn_formula.specs.declared.instruction.Operation.{Operation}
use Rattle.hox_formula.specs.Expressions.{Expression, Applied, value}
use Rattle.hox_formula.specs.Fragments.{StandsFor, Computes}
use Rattle.hox_formula.proofs.Codes.{applied_code, short_code}
use Rattle.hox_formula.proofs.fragment.applied_code.Goals as goal

short_if :
    (second : Option ℕ) (i : Instruction) (xs : List Instruction) (operation : Operation) (d e : Expression) → IfSome second (λ n. (vs : List ℕ) → value e vs ≡ n)
    → StandsFor operation second i → Computes xs d → Computes (xs ++ (i ∷ [])) (Applied operation d e)
short_if (Some n) i xs op d e known short first = short_code xs i op n d e first known short
short_if None i xs op d e known short first = absurd short

pub returns-in-Some : goal.returns-in-Some
returns-in-Some c = IfOk-weaker c.followed.result _ _ (λ code is d e first second. rw is (short_if c.args.second.facts.number c.in-Some.instruction c.args.first.items c.args.operation d e second.knows.number c.in-Some.ensures first)) c.followed.ensures

pub returns-in-None : goal.returns-in-None
returns-in-None c = IfOk-weaker c.followed_two.result _ _ (λ code is d e first second. rw is (applied_code c.args.first.items c.args.second.code.items c.args.operation d e first second.computes)) c.followed_two.ensures
