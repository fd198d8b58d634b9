-- The bounds that do not hold.
use Rattle.test_laws.proofs.ChangedBounds.{greatest_grows_fails, early_growth_fails, each_below_its_own_fails, stays_up_to_fails}
use Rattle.test_laws.proofs.bounds.changed_bounds.Goals as goal

pub returns-clause-greatest_first : goal.returns-clause-greatest_first
returns-clause-greatest_first c = greatest_grows_fails

pub returns-clause-early : goal.returns-clause-early
returns-clause-early c = early_growth_fails

pub returns-clause-each_its_own : goal.returns-clause-each_its_own
returns-clause-each_its_own c = each_below_its_own_fails

pub returns-clause-no_step : goal.returns-clause-no_step
returns-clause-no_step c = stays_up_to_fails
