use Rattle.std.proofs.Common.{◌≡◌, ◌++◌, string_bytes}
use Rattle.kpn_model.specs.texts.Reports.{lines_upto}
use Rattle.hox_handle.specs.Reports.{process_line}
use Rattle.hox_handle.proofs.report.push_processes.Given as goal

abbrev pub invariant-loop-p : goal.invariant-loop-p
invariant-loop-p g l = string_bytes l.out ≡ string_bytes l.initial.out ++ lines_upto (process_line l.net l.standings l.places) l.p
