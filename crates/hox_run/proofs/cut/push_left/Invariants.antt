use Rattle.std.proofs.Common.{◌≡◌, ◌++◌, string_bytes}
use Rattle.kpn_model.specs.texts.Reports.{lines_upto}
use Rattle.hox_run.specs.Cuts.{left_at, left_line}
use Rattle.hox_run.proofs.cut.push_left.Given as goal

abbrev pub invariant-loop-p : goal.invariant-loop-p
invariant-loop-p g l = string_bytes l.out ≡ string_bytes l.initial.out ++ lines_upto (left_line l.net (left_at l.standings l.places)) l.p
