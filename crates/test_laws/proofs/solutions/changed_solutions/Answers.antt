-- The changed laws fail.
use Rattle.test_laws.proofs.ChangedSolutions.{greatest_fails, taken_fails, no_start_fails}
use Rattle.test_laws.proofs.solutions.changed_solutions.Goals as goal

pub returns-clause-greatest : goal.returns-clause-greatest
returns-clause-greatest c = greatest_fails

pub returns-clause-taken : goal.returns-clause-taken
returns-clause-taken c = taken_fails

pub returns-clause-no_start : goal.returns-clause-no_start
returns-clause-no_start c = no_start_fails
