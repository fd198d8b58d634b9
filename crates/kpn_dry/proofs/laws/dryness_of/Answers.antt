-- The laws at a family that is given as a type.
use Rattle.kpn_dry.proofs.DryRuns.{dry_stays_dry}
use Rattle.kpn_dry.proofs.laws.dryness_of.Goals as goal

pub returns-clause-stays : goal.returns-clause-stays
returns-clause-stays g c = dry_stays_dry _
