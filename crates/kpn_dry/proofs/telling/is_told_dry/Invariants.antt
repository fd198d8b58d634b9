use Rattle.std.proofs.Common.{◌≡◌, ◌-◌, length}
use Rattle.kpn_dry.specs.Told.{is_told_dry, stops_within}
use Rattle.kpn_dry.proofs.telling.is_told_dry.Given as goal

abbrev pub invariant-loop-wait : goal.invariant-loop-wait
invariant-loop-wait g l = stops_within l.net l.standings (length l.standings - l._wait) l.at ≡ is_told_dry l.net l.standings l.process
