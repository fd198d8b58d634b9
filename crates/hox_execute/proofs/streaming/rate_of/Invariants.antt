use Rattle.std.proofs.Common.{◌≡◌, drop, map}
use Rattle.hox_execute.specs.Reports.{first_rate}
use Rattle.hox_execute.proofs.streaming.rate_of.Given as goal

abbrev pub invariant-loop-source : goal.invariant-loop-source
invariant-loop-source g l = first_rate (map (λ b. b.rate) l.sources) ≡ first_rate (map (λ b. b.rate) (drop l.source-index l.sources))
