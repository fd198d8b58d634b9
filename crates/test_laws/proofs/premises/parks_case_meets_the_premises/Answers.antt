-- The network is that of a description without a fault, and its digests are computed.
use Rattle.test_laws.proofs.ParksCase.{parks_valid, parks_ends, roomy_ends}
use Rattle.test_laws.proofs.premises.parks_case_meets_the_premises.Goals as goal

pub returns-clause-valid : goal.returns-clause-valid
returns-clause-valid c = parks_valid

pub returns-clause-digest : goal.returns-clause-digest
returns-clause-digest c = parks_ends

pub returns-clause-other_capacities : goal.returns-clause-other_capacities
returns-clause-other_capacities c = roomy_ends
