-- The numbers of exit statuses.
use Rattle.std.specs.Prelude.{ℕ}
use Rattle.kpn_front.specs.declared.status.ExitStatus.{ExitStatus}
use Rattle.kpn_front.specs.declared.status.ExitStatus.TheVariants.{Success, WrongArguments, Refused, BudgetSpent, MemoryRefused, Deadlocked, AtCeiling, WriteFailed, Lost}

abbrev pub code_of : ExitStatus → ℕ
code_of Success = 0
code_of WrongArguments = 1
code_of Refused = 2
code_of BudgetSpent = 3
code_of MemoryRefused = 4
code_of Deadlocked = 5
code_of AtCeiling = 6
code_of WriteFailed = 7
code_of Lost = 8
