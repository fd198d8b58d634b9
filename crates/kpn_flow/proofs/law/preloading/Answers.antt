-- The law of feeding.
use Rattle.kpn_flow.proofs.Feeding.{feeding_is_preloading}
use Rattle.kpn_flow.proofs.law.preloading.Goals as goal

pub returns : goal.returns
returns c = feeding_is_preloading
