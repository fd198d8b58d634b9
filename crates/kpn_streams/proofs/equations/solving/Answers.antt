-- A network's equations are solved by functions on streams.
use Rattle.kpn_streams.proofs.SolvingPorts.{test_tells_ports, test_tells_order, equation_by_test}
use Rattle.kpn_streams.proofs.SolvingFed.{fed_is_alone, fed_is_all}
use Rattle.kpn_streams.proofs.SolvingEquations.{step_is_below}
use Rattle.kpn_streams.proofs.SolvingLimits.{limit_is_least, approximations_grow, approximations_are_below, solved_is_solution}
use Rattle.kpn_streams.proofs.SolvingRuns.{run_is_approximated, solution_solves, fixed_is_computed, solved_is_computed, ordered_is_computed}
use Rattle.kpn_streams.proofs.SolvingAlike.{alike_compute_the_same}
use Rattle.kpn_streams.proofs.equations.solving.Goals as goal

pub returns-clause-ports : goal.returns-clause-ports
returns-clause-ports c = test_tells_ports

pub returns-clause-order : goal.returns-clause-order
returns-clause-order c = test_tells_order

pub returns-clause-laws : goal.returns-clause-laws
returns-clause-laws c = λ kinds. record {
  equation = equation_by_test kinds;
  fed_alone = fed_is_alone kinds;
  fed_all = fed_is_all kinds;
  limit = limit_is_least kinds;
  grow = approximations_grow kinds;
  below = approximations_are_below kinds;
  approximated = run_is_approximated kinds;
  fixed = fixed_is_computed kinds;
  solved = solved_is_solution kinds;
  solves = solution_solves kinds;
  computed = solved_is_computed kinds;
  step = step_is_below kinds;
  ordered = ordered_is_computed kinds;
  alike = alike_compute_the_same kinds;
}
