-- The laws that fail for the changed definitions.
use Rattle.test_laws.proofs.Counterexamples.{early_growth_fails, put_into_full_overfills, put_into_full_fails, any_of_equal_fails, taken_does_not_tell}
use Rattle.test_laws.proofs.changed.changed_definitions.Goals as goal

pub returns-clause-early_growth : goal.returns-clause-early_growth
returns-clause-early_growth c = early_growth_fails

pub returns-clause-put_into_full : goal.returns-clause-put_into_full
returns-clause-put_into_full c = put_into_full_overfills

pub returns-clause-put_into_full_digest : goal.returns-clause-put_into_full_digest
returns-clause-put_into_full_digest c = put_into_full_fails

pub returns-clause-any_of_equal : goal.returns-clause-any_of_equal
returns-clause-any_of_equal c = any_of_equal_fails

pub returns-clause-taken_tells : goal.returns-clause-taken_tells
returns-clause-taken_tells c = taken_does_not_tell
