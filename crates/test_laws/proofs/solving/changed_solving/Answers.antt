-- The changed laws fail.
use Rattle.test_laws.proofs.ChangedSolving.{all_solved_fails, limit_from_any_fails}
use Rattle.test_laws.proofs.solving.changed_solving.Goals as goal

pub returns-clause-with_a_loop : goal.returns-clause-with_a_loop
returns-clause-with_a_loop c = all_solved_fails

pub returns-clause-from_any : goal.returns-clause-from_any
returns-clause-from_any c = limit_from_any_fails
