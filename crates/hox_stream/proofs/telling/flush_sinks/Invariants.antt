use Rattle.hox_stream.proofs.Flushed.{Flushes}
use Rattle.hox_stream.proofs.telling.flush_sinks.Given as goal

abbrev pub invariant-loop-k : goal.invariant-loop-k
invariant-loop-k g l = Flushes l.initial.outlets l.outlets l.k l.failed
