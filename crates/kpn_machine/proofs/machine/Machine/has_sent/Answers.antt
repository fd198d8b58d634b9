-- Found without an answer too, after a longer search.
use denote.Param.Send.{sendable}
use Rattle.kpn_machine.proofs.machine.Machine.has_sent.Goals as goal

pub card-requires : goal.card-requires
card-requires g c = search sendable

pub last-requires : goal.last-requires
last-requires g c = search sendable

pub local-requires : goal.local-requires
local-requires g c = search sendable

pub process-requires : goal.process-requires
process-requires g c = search sendable
