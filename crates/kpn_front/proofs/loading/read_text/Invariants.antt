use Rattle.std.proofs.Common.{◌≡◌, ◌≤◌, ◌-◌, true, length}
use Rattle.std.specs.Io.KnownBytes.{Consumes}
use Rattle.kpn_front.proofs.loading.read_text.Given as goal

abbrev pub invariant-loop-chunk : goal.invariant-loop-chunk
invariant-loop-chunk g l = record {
  short : length l.text.items ≤ 1048577;
  steady : g.S.Source.is_steady l.initial.source ≡ true → g.S.Source.is_steady l.source ≡ true;
  unfailed : g.S.Source.has_failed l.source ≡ g.S.Source.has_failed l.initial.source;
  bytes : Consumes (g.S.Source.remaining l.initial.source) (g.S.Source.remaining l.source) l.text.items;
}

abbrev pub decreases-loop-chunk : goal.decreases-loop-chunk
decreases-loop-chunk g l = 1048577 - length l.text.items
