-- The numbers of answers, ends and pauses.
use Rattle.std.specs.Prelude.{ℕ}
use Rattle.kpn_model.specs.declared.history.End.{End}
use Rattle.kpn_model.specs.declared.history.End.TheVariants.{Terminated, Deadlock, Ceiling, Budget, Memory}
use Rattle.kpn_sketch.specs.Fault.{number_of_fault}
use Rattle.kpn_flow.specs.declared.pause.Pause.{Pause}
use Rattle.kpn_flow.specs.declared.pause.Pause.TheVariants.{Cut, Starved, Blocked, Over}
use Rattle.hox_handle.specs.declared.answers.ReturnCode.{ReturnCode}
use Rattle.hox_handle.specs.declared.answers.ReturnCode.TheVariants.{Done, Description, Closed, Open, NoChannel, Ended, NoFlag, NoText, NoInput, NoOutput, Twice}

-- 0 for success; the fault's number; else 32 to 40
abbrev pub answer_number : ReturnCode → ℕ
answer_number Done = 0
answer_number (Description fault) = number_of_fault fault
answer_number Closed = 32
answer_number Open = 33
answer_number NoChannel = 34
answer_number Ended = 35
answer_number NoFlag = 36
answer_number NoText = 37
answer_number NoInput = 38
answer_number NoOutput = 39
answer_number Twice = 40

abbrev pub end_number : End → ℕ
end_number Terminated = 64
end_number Deadlock = 65
end_number Ceiling = 66
end_number Budget = 67
end_number Memory = 68

abbrev pub pause_number : Pause → ℕ
pause_number Cut = 0
pause_number Starved = 1
pause_number Blocked = 2
pause_number (Over end) = end_number end
