-- The report of a chronicle.
use Rattle.std.specs.Prelude.{◌≡◌, Option, Some, Result, IfOk, IfSome}
use Rattle.kpn_model.specs.declared.history.End.{End}
use Rattle.kpn_model.specs.Network.{Family}
use Rattle.kpn_machine.specs.MachineView.{MachineView}
use Rattle.kpn_report.specs.declared.detail.Report.{Report}
use Rattle.kpn_run.specs.Reports.{IsReportOf}

-- the report of a machine that ended for this cause
abbrev pub TellsReportOf : Family → MachineView → End → Report → Type 0
TellsReportOf kinds s cause r = IsReportOf kinds s cause r.end r.detail

-- a report, if any, is that of the machine, if it has ended
abbrev pub TellsIfEnded : {F : Type 0} → Family → MachineView → Result (Option Report) F → Type 0
TellsIfEnded kinds s result =
    (cause : End) → s.end ≡ Some cause → IfOk result (λ o. IfSome o (TellsReportOf kinds s cause))
