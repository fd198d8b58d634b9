use Rattle.hox_stream.proofs.Flushed.{FlushesTables}
use Rattle.hox_stream.proofs.tabling.flush_tables.Given as goal

abbrev pub invariant-loop-k : goal.invariant-loop-k
invariant-loop-k g l = FlushesTables l.initial.tables l.tables l.k l.failed
