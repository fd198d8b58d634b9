-- The exit status of a program when its stream ends.
use Rattle.kpn_model.specs.declared.verdict.Verdict.{Verdict}
use Rattle.kpn_model.specs.declared.verdict.Verdict.TheVariants.{Finished, RanDry, Cycle, Cut as WasCut, Full, Memory as NoMemory}
use Rattle.kpn_front.specs.declared.status.ExitStatus.{ExitStatus}
use Rattle.kpn_front.specs.declared.status.ExitStatus.TheVariants.{Success, Refused, BudgetSpent, MemoryRefused, Deadlocked, AtCeiling, WriteFailed}
use Rattle.hox_stream.specs.declared.finish.StreamFinish.{StreamFinish}
use Rattle.hox_stream.specs.declared.finish.StreamFinish.TheVariants.{Over, Refused as RefusedRecord, Unread, OtherSort, Unwritten, Misfit, Apart, Idle, Memory, Cut}

-- when no process can continue, the verdict on the network decides
abbrev pub status_of_verdict : Verdict → ExitStatus
status_of_verdict Finished = Success
status_of_verdict RanDry = Success
status_of_verdict (Cycle p) = Deadlocked
status_of_verdict WasCut = BudgetSpent
status_of_verdict Full = AtCeiling
status_of_verdict NoMemory = MemoryRefused

abbrev pub status_of : StreamFinish → Verdict → ExitStatus
status_of (Over end) verdict = status_of_verdict verdict
status_of Idle verdict = status_of_verdict verdict
status_of (RefusedRecord k refusal) verdict = Refused
status_of (Unread k) verdict = Refused
status_of (OtherSort k) verdict = Refused
status_of (Misfit k) verdict = Refused
status_of (Apart k) verdict = Refused
status_of (Unwritten k) verdict = WriteFailed
status_of Memory verdict = MemoryRefused
status_of Cut verdict = BudgetSpent
