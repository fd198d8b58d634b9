-- The laws at a family that is given as a type.
use Rattle.kpn_model.specs.Families.{family}
use Rattle.kpn_laws.proofs.outcome.determinacy_of.Goals as goal

pub returns : goal.returns
returns g c = c.determinacy.ensures (family g.K.Kinds)
