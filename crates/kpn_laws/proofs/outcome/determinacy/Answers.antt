-- The laws of determinacy.
use Rattle.kpn_laws.proofs.Digests.{one_digest, no_longer}
use Rattle.kpn_laws.proofs.Outcomes.{one_outcome, all_comparable}
use Rattle.kpn_laws.proofs.outcome.determinacy.Goals as goal

pub returns : goal.returns
returns c = λ kinds. record {
  one_digest = one_digest kinds;
  none_longer = no_longer kinds;
  one_outcome = one_outcome kinds;
  all_comparable = all_comparable kinds;
}
