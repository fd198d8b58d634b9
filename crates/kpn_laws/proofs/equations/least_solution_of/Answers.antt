-- The laws at a family that is given as a type.
use Rattle.kpn_model.specs.Families.{family}
use Rattle.kpn_laws.proofs.equations.least_solution_of.Goals as goal

pub returns : goal.returns
returns g c = c.least_solution.ensures (family g.K.Kinds)
