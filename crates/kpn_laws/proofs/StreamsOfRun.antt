-- The streams of every run approach the least solution.
use Rattle.kpn_model.specs.Network.{Family}
use Rattle.kpn_model.specs.Semantics.{start}
use Rattle.kpn_laws.specs.StreamsOfRun.{EachApproachesLeastSolution}
use Rattle.kpn_laws.proofs.Kept.{fresh_start}
use Rattle.kpn_laws.proofs.Solutions.{below_here, end_is_least, end_is_least_from_any}

-- what the laws say of a run
pub each_approaches : (kinds : Family) → EachApproachesLeastSolution kinds
each_approaches kinds net E M run =
    record {
      below = λ T obeys c. below_here kinds net T obeys (start kinds net) (fresh_start kinds net) E M run c;
      least = λ a over natural. end_is_least kinds net E M a (record { run = run; over = over }) natural;
      from_any = λ sizes F N a final natural. end_is_least_from_any kinds net sizes F N a final natural;
    }
