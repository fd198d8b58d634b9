-- Which runs have a report, and its lines.
use Rattle.std.specs.Prelude.{ℕ, zero, suc, Bool, true, false, List, [], ◌++◌}
use Rattle.kpn_model.specs.declared.history.End.{End}
use Rattle.kpn_model.specs.declared.history.End.TheVariants.{Budget, Memory}

-- whether a run with this end is over, so that its report has more than the end
abbrev pub has_report : End → Bool
has_report Budget = false
has_report Memory = false
has_report _ = true

-- the texts of the first n lines
abbrev pub lines_upto : (ℕ → List ℕ) → ℕ → List ℕ
lines_upto line zero = []
lines_upto line (suc n) = lines_upto line n ++ line n
