use Rattle.std.proofs.Common.{◌≡◌, drop, map}
use Rattle.hox_execute.specs.Reports.{first_rate}
use Rattle.hox_execute.proofs.texts.rate_of.Given as goal

abbrev pub invariant-loop-file : goal.invariant-loop-file
invariant-loop-file l = first_rate (map (λ f. f.rate) l.files) ≡ first_rate (map (λ f. f.rate) (drop l.file-index l.files))
