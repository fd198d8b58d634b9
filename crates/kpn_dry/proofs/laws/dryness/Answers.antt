-- The laws of dry processes.
use Rattle.kpn_dry.proofs.DryRuns.{complete_is_whole, dry_has_done_all, dry_stays_dry}
use Rattle.kpn_dry.proofs.laws.dryness.Goals as goal

pub returns-clause-stays : goal.returns-clause-stays
returns-clause-stays c = dry_stays_dry

pub returns-clause-done_all : goal.returns-clause-done_all
returns-clause-done_all c = dry_has_done_all

pub returns-clause-whole : goal.returns-clause-whole
returns-clause-whole c = complete_is_whole
