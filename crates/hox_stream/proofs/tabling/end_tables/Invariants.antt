use Rattle.hox_stream.proofs.Flushed.{EndsTables}
use Rattle.hox_stream.proofs.tabling.end_tables.Given as goal

abbrev pub invariant-loop-k : goal.invariant-loop-k
invariant-loop-k g l = EndsTables l.initial.tables l.tables l.k l.failed
