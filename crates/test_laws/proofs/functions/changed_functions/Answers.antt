-- The changed functions fail.
use Rattle.test_laws.proofs.ChangedFunctions.{count_fails, take_fails, copy_fails, prefix_fails, add_fails, weave_fails, keeps_both_fails, drains_fails, divides_fails, switch_fails, select_fails, filter_fails, round_fails, no_turn_fails, has_all_fails}
use Rattle.test_laws.proofs.functions.changed_functions.Goals as goal

pub returns-clause-count : goal.returns-clause-count
returns-clause-count c = count_fails

pub returns-clause-take : goal.returns-clause-take
returns-clause-take c = take_fails

pub returns-clause-copy : goal.returns-clause-copy
returns-clause-copy c = copy_fails

pub returns-clause-prefix : goal.returns-clause-prefix
returns-clause-prefix c = prefix_fails

pub returns-clause-add : goal.returns-clause-add
returns-clause-add c = add_fails

pub returns-clause-weave : goal.returns-clause-weave
returns-clause-weave c = weave_fails

pub returns-clause-keeps_both : goal.returns-clause-keeps_both
returns-clause-keeps_both c = keeps_both_fails

pub returns-clause-drains : goal.returns-clause-drains
returns-clause-drains c = drains_fails

pub returns-clause-divides : goal.returns-clause-divides
returns-clause-divides c = divides_fails

pub returns-clause-switch : goal.returns-clause-switch
returns-clause-switch c = switch_fails

pub returns-clause-select : goal.returns-clause-select
returns-clause-select c = select_fails

pub returns-clause-filter : goal.returns-clause-filter
returns-clause-filter c = filter_fails

pub returns-clause-round : goal.returns-clause-round
returns-clause-round c = round_fails

pub returns-clause-no_turn : goal.returns-clause-no_turn
returns-clause-no_turn c = no_turn_fails

pub returns-clause-has_all : goal.returns-clause-has_all
returns-clause-has_all c = has_all_fails
