-- What the version of a description decides: the keys, the ceiling and the greatest budget.
use Rattle.std.specs.Prelude.{ℕ, ℤ, pos, Bool, if◌then◌else◌}
use Rattle.std.specs.Ordering.{int_eq}
use Rattle.kpn_model.specs.declared.limits.TheConstants.{CEILING, HIGH_CEILING, GREATEST_BUDGET, GREATEST_HIGH_BUDGET}

abbrev pub is_two : ℤ → Bool
is_two version = int_eq version (pos 2)

-- in tokens; also the greatest starting capacity
abbrev pub ceiling_in : ℤ → ℕ
ceiling_in version = if is_two version then HIGH_CEILING else CEILING

abbrev pub greatest_budget_in : ℤ → ℕ
greatest_budget_in version = if is_two version then GREATEST_HIGH_BUDGET else GREATEST_BUDGET
