use Rattle.std.proofs.Common.{◌≡◌, ◌++◌, string_bytes}
use Rattle.kpn_model.specs.texts.Reports.{lines_upto}
use Rattle.hox_handle.specs.Reports.{channel_line}
use Rattle.hox_handle.proofs.report.push_channels.Given as goal

abbrev pub invariant-loop-c : goal.invariant-loop-c
invariant-loop-c g l = string_bytes l.out ≡ string_bytes l.initial.out ++ lines_upto (channel_line l.flow.network l.flow.state) l.c
