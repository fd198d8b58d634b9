use Rattle.std.proofs.Common.{◌≡◌, ◌++◌, string_bytes}
use Rattle.kpn_model.specs.texts.Reports.{lines_upto}
use Rattle.kpn_dry.specs.ActiveLine.{active_name}
use Rattle.kpn_dry.specs.Told.{is_told_dry}
use Rattle.kpn_dry.proofs.active.push_active_names.Given as goal

abbrev pub invariant-loop-p : goal.invariant-loop-p
invariant-loop-p g l = string_bytes l.out ≡ string_bytes l.initial.out ++ lines_upto (active_name l.net (is_told_dry l.net l.standings)) l.p
