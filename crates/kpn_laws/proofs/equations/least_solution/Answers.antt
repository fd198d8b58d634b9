-- The streams of a network are the least solution of its equations.
use Rattle.kpn_laws.proofs.Continuity.{is_function, is_continuous}
use Rattle.kpn_laws.proofs.Solutions.{streams_below, end_is_least, end_is_least_from_any}
use Rattle.kpn_laws.proofs.ReportedStreams.{digest_is_least, digest_is_below}
use Rattle.kpn_laws.proofs.Limits.{all_is_reached, limit_is_least, common_run, one_least}
use Rattle.kpn_laws.proofs.StreamsOfRun.{each_approaches}
use Rattle.kpn_laws.proofs.equations.least_solution.Goals as goal

pub returns : goal.returns
returns c = λ kinds. record {
  function = is_function kinds;
  continuous = is_continuous kinds;
  below = streams_below kinds;
  end_is_least = end_is_least kinds;
  end_is_least_from_any = end_is_least_from_any kinds;
  one_least = one_least kinds;
  all_reached = all_is_reached kinds;
  limit_is_least = limit_is_least kinds;
  common_run = common_run kinds;
  digest_is_least = digest_is_least kinds;
  each_run = each_approaches kinds;
  below_digest = digest_is_below kinds;
}
