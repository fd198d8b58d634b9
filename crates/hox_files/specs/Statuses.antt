-- The exit status of a program that does not carry out its command.
use Rattle.std.specs.Prelude.{if◌then◌else◌}
use Rattle.kpn_front.specs.declared.status.ExitStatus.{ExitStatus}
use Rattle.kpn_front.specs.declared.status.ExitStatus.TheVariants.{Success, WrongArguments, Refused as WasRefused, MemoryRefused}
use Rattle.hox_args.specs.HoxChoices.{asks_for_hox_help}
use Rattle.hox_network.specs.Statuses.{status_of_fault}
use Rattle.hox_files.specs.declared.formats.FormatStop.{FormatStop}
use Rattle.hox_files.specs.declared.formats.FormatStop.TheVariants.{Alone, Head, NoUse, Twice, Unknown, Unlike}
use Rattle.hox_files.specs.declared.reading.ReadError.{ReadError}
use Rattle.hox_files.specs.declared.reading.ReadError.TheVariants.{Failed, TooLong, Memory as NoMemory}
use Rattle.hox_files.specs.declared.stops.Stop.{Stop}
use Rattle.hox_files.specs.declared.stops.Stop.TheVariants.{Clash, Format, InputTwice, Memory, NoPair, Refused, Unread, Words}

abbrev pub status_of_unread : ReadError → ExitStatus
status_of_unread NoMemory = MemoryRefused
status_of_unread (Failed error) = WasRefused
status_of_unread TooLong = WasRefused

abbrev pub status_of_format : FormatStop → ExitStatus
status_of_format (Unknown fault) = WrongArguments
status_of_format (NoUse channel) = WrongArguments
status_of_format (Twice channel) = WrongArguments
status_of_format (Head file fault) = WasRefused
status_of_format (Alone file) = WrongArguments
status_of_format (Unlike file channel) = WrongArguments

abbrev pub status_of_stop : Stop → ExitStatus
status_of_stop (Words fault) = if asks_for_hox_help fault then Success else WrongArguments
status_of_stop (NoPair option text) = WrongArguments
status_of_stop InputTwice = WrongArguments
status_of_stop (Clash one other) = WrongArguments
status_of_stop (Format stop) = status_of_format stop
status_of_stop (Unread file error) = status_of_unread error
status_of_stop (Refused refusal) = status_of_fault refusal.fault
status_of_stop Memory = MemoryRefused
