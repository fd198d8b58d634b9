use Rattle.std.proofs.Common.{◌<◌, ℕ, get_or}
use Rattle.hox_files.specs.declared.uses.Use.{Use}
use Rattle.hox_files.specs.Uses.{StandApart, used}
use Rattle.hox_files.proofs.uses.clash_with.Given as goal

abbrev pub invariant-loop-other : goal.invariant-loop-other
invariant-loop-other g l = (k : ℕ) (d : Use) → k < l.other-index → StandApart (g.S.FileSystem.clash l.files) (used l.one) (used (get_or l.others k d))
