-- The law of a caller's own process.
use Rattle.kpn_flow.proofs.OwnProcesses.{own_processes_are_below}
use Rattle.kpn_flow.proofs.law.own_processes.Goals as goal

pub returns : goal.returns
returns c = own_processes_are_below
