use Rattle.std.proofs.Common.{◌≡◌, ◌++◌, string_bytes, take}
use Rattle.std.specs.List.{flat_map}
use Rattle.kpn_report.specs.Text.{growth_line}
use Rattle.kpn_report.proofs.lines.push_growths.Given as goal

abbrev pub invariant-loop-growth : goal.invariant-loop-growth
invariant-loop-growth g l = string_bytes l.out ≡ string_bytes l.initial.out ++ flat_map (growth_line l.net) (take l.growth-index l.growths)
