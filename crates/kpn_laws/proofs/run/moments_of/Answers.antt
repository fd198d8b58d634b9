-- The laws at a family that is given as a type.
use Rattle.kpn_model.specs.Families.{family}
use Rattle.kpn_laws.proofs.run.moments_of.Goals as goal

pub returns : goal.returns
returns g c = c.moments.ensures (family g.K.Kinds)
