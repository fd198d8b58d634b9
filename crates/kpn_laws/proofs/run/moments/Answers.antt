-- The laws of the moments of a run.
use Rattle.kpn_laws.proofs.EachMoment.{one_state, prefixes, history_tells_state, budget_suffices, enabled_can_do, one_cause}
use Rattle.kpn_laws.proofs.Within.{always_within}
use Rattle.kpn_laws.proofs.run.moments.Goals as goal

pub returns : goal.returns
returns c = λ kinds. record {
  one_state = one_state kinds;
  prefixes = prefixes kinds;
  within = always_within kinds;
  told = history_tells_state kinds;
  budget = budget_suffices kinds;
  enabled = enabled_can_do kinds;
  one_cause = one_cause kinds;
}
