-- The least solutions of the worked networks.
use Rattle.test_laws.proofs.WorkedSolutions.{parks_solution, sums_solution, ring_solution}
use Rattle.test_laws.proofs.solutions.worked_solutions.Goals as goal

pub returns-clause-parks_case : goal.returns-clause-parks_case
returns-clause-parks_case c = parks_solution

pub returns-clause-running_sums : goal.returns-clause-running_sums
returns-clause-running_sums c = sums_solution

pub returns-clause-ring : goal.returns-clause-ring
returns-clause-ring c = ring_solution
