-- The laws at a family that is given as a type.
use Rattle.kpn_model.specs.Families.{family}
use Rattle.kpn_laws.proofs.ending.completion_of.Goals as goal

pub returns : goal.returns
returns g c = c.completion.ensures (family g.K.Kinds)
