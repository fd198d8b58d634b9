use Rattle.std.proofs.Common.{◌≡◌}
use Rattle.hox_stream.specs.Serves.{new_lanes}
use Rattle.hox_stream.proofs.Paired.{left_of}
use Rattle.hox_stream.proofs.placing.lanes_of.Given as goal

abbrev pub invariant-loop-decimals : goal.invariant-loop-decimals
invariant-loop-decimals l = record {
  made : l.lanes.items ≡ new_lanes l.table l.channels l.yielded;
  rest : l.rest ≡ left_of l.channels l.yielded;
}
