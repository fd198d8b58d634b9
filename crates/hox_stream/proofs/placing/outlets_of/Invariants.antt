use Rattle.std.proofs.Common.{◌≡◌}
use Rattle.hox_stream.specs.Serves.{new_outlets}
use Rattle.hox_stream.proofs.Paired.{left_of}
use Rattle.hox_stream.proofs.placing.outlets_of.Given as goal

abbrev pub invariant-loop-sink : goal.invariant-loop-sink
invariant-loop-sink g l = record {
  made : l.outlets.items ≡ new_outlets g.S.Sink.seen l.channels l.yielded;
  rest : l.rest ≡ left_of l.channels l.yielded;
}
