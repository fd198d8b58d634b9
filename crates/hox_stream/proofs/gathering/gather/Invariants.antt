use Rattle.std.proofs.Common.{◌≡◌}
use Rattle.hox_stream.specs.Gathering.{Gathers, end_of}
use Rattle.hox_stream.proofs.gathering.gather.Given as goal

abbrev pub invariant-loop-count : goal.invariant-loop-count
invariant-loop-count l = record {
  gathers : Gathers l.kept.layout.now l.kept.sort l.kept.bytes.now l.tokens l.ends l.count;
  at : l.end ≡ end_of l.ends l.count;
}
