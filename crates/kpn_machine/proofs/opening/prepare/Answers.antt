-- Each process is admitted at its start.
use denote.Param.Send.{sendable}
use Rattle.kpn_machine.proofs.opening.prepare.Goals as goal

pub returns-clause-admitted : goal.returns-clause-admitted
returns-clause-admitted g c = c.in_ok-statuses.ensures.admitted

pub channels-requires : goal.channels-requires
channels-requires g c = search sendable

pub processes-requires : goal.processes-requires
processes-requires g c = search sendable

pub processes-requires-2 : goal.processes-requires-2
processes-requires-2 g c = search sendable

pub processes-requires-3 : goal.processes-requires-3
processes-requires-3 g c = search sendable

pub empty_slots-requires : goal.empty_slots-requires
empty_slots-requires g c = search sendable
