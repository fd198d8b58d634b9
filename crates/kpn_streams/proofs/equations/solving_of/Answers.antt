-- The laws at a family that is given as a type.
use Rattle.kpn_model.specs.Families.{family}
use Rattle.kpn_streams.proofs.equations.solving_of.Goals as goal

pub returns : goal.returns
returns g c = c.solving.ensures.laws (family g.K.Kinds)
