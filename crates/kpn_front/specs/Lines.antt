-- The lines about a description or a run.
use Rattle.std.specs.Prelude.{ℕ, codes, decimal, List, ◌++◌, length}
use Rattle.kpn_sketch.specs.declared.fault.NetFault.{NetFault}
use Rattle.kpn_sketch.specs.declared.fault.NetFault.TheVariants.{Memory}
use Rattle.kpn_sketch.specs.Fault.{number_of_fault}
use Rattle.kpn_model.specs.Network.{Network}
use Rattle.kpn_front.specs.declared.status.ExitStatus.{ExitStatus}
use Rattle.kpn_front.specs.declared.status.ExitStatus.TheVariants.{Refused, MemoryRefused}

-- how many channels the network has
abbrev pub channels_counted : Network → List ℕ
channels_counted net = decimal (length net.channels) ++ codes " channels\n"

-- written about a network that is accepted
abbrev pub checked_line : Network → List ℕ
checked_line net = codes "ok " ++ (decimal (length net.processes) ++ (codes " processes " ++ channels_counted net))

-- written about a description that is refused
abbrev pub refused_line : NetFault → List ℕ
refused_line fault = codes "refused " ++ (decimal (number_of_fault fault) ++ codes "\n")

abbrev pub status_of_fault : NetFault → ExitStatus
status_of_fault Memory = MemoryRefused
status_of_fault _ = Refused

-- written if a worker's answer was refused
abbrev pub lost_line : List ℕ
lost_line = codes "lost\n"

-- written if no channel has the name given by `--show`
abbrev pub no_channel_line : List ℕ → List ℕ
no_channel_line name = codes "no channel " ++ name ++ codes "\n"
