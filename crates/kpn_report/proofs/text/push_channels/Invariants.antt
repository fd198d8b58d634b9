use Rattle.std.proofs.Common.{◌≡◌, ◌++◌, string_bytes}
use Rattle.kpn_model.specs.texts.Reports.{lines_upto}
use Rattle.kpn_report.specs.Counted.{counted_line}
use Rattle.kpn_report.proofs.text.push_channels.Given as goal

abbrev pub invariant-loop-c : goal.invariant-loop-c
invariant-loop-c g l = string_bytes l.out ≡ string_bytes l.initial.out ++ lines_upto (counted_line l.net l.channel_counts) l.c
