use Rattle.std.proofs.Common.{◌≡◌}
use Rattle.hox_stream.specs.Serves.{new_inlets}
use Rattle.hox_stream.proofs.Paired.{left_of}
use Rattle.hox_stream.proofs.serving.inlets_of.Given as goal

abbrev pub invariant-loop-source : goal.invariant-loop-source
invariant-loop-source g l = record {
  made : l.inlets.items ≡ new_inlets g.S.Source.remaining g.S.Source.has_failed l.net l.channels l.yielded;
  left : l.left ≡ left_of l.channels l.yielded;
}
