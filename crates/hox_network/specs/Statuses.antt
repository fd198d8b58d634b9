-- The exit status for a fault.
use Rattle.kpn_front.specs.declared.status.ExitStatus.{ExitStatus}
use Rattle.kpn_front.specs.declared.status.ExitStatus.TheVariants.{WrongArguments, Refused, MemoryRefused, Lost as WasLost}
use Rattle.kpn_front.specs.Lines.{status_of_fault as status_of_description}
use Rattle.hox_network.specs.declared.presets.FileFault.{FileFault}
use Rattle.hox_network.specs.declared.presets.FileFault.TheVariants.{NoChannel, Memory as NoMemory}
use Rattle.hox_network.specs.declared.request.Fault.{Fault}
use Rattle.hox_network.specs.declared.request.Fault.TheVariants.{Description, Tokens, Memory, Lost}

abbrev pub status_of_file : FileFault → ExitStatus
status_of_file NoChannel = WrongArguments
status_of_file NoMemory = MemoryRefused
status_of_file _ = Refused

abbrev pub status_of_fault : Fault → ExitStatus
status_of_fault (Description refused) = status_of_description refused.fault
status_of_fault (Tokens stop) = status_of_file stop.fault
status_of_fault Memory = MemoryRefused
status_of_fault Lost = WasLost
status_of_fault _ = WrongArguments
