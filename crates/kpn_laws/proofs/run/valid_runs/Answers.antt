-- Runs of valid networks stay within the capacities.
use Rattle.kpn_laws.proofs.ValidRuns.{starts_within, stays_within}
use Rattle.kpn_laws.proofs.run.valid_runs.Goals as goal

pub returns-clause-start : goal.returns-clause-start
returns-clause-start c = starts_within

pub returns-clause-within : goal.returns-clause-within
returns-clause-within c = stays_within
