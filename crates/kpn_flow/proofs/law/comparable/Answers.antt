-- The law of comparable pieces.
use Rattle.kpn_flow.proofs.Compared.{pieces_are_comparable}
use Rattle.kpn_flow.proofs.Exhausted.{exhausted_are_the_same}
use Rattle.kpn_flow.proofs.law.comparable.Goals as goal

pub returns-clause-begun_alike : goal.returns-clause-begun_alike
returns-clause-begun_alike c = pieces_are_comparable

pub returns-clause-same : goal.returns-clause-same
returns-clause-same c = exhausted_are_the_same
