-- The laws of dry processes of a flow.
use Rattle.kpn_flow_verdict.proofs.FlowRuns.{complete_stays, dry_stays_dry}
use Rattle.kpn_flow_verdict.proofs.law.flow_dryness.Goals as goal

pub returns-clause-stays : goal.returns-clause-stays
returns-clause-stays c = dry_stays_dry

pub returns-clause-complete : goal.returns-clause-complete
returns-clause-complete c = complete_stays
