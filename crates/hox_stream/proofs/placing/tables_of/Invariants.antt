use Rattle.std.proofs.Common.{◌≡◌}
use Rattle.hox_stream.specs.Serves.{new_tables}
use Rattle.hox_stream.proofs.Behind.{channels_behind}
use Rattle.hox_stream.proofs.placing.tables_of.Given as goal

abbrev pub invariant-loop-laid : goal.invariant-loop-laid
invariant-loop-laid g l = record {
  made : l.outlets.items ≡ new_tables g.S.Sink.seen l.channels l.yielded;
  rest : l.rest ≡ channels_behind l.channels l.yielded;
}
