-- If memory is refused before the run, this is written.
use Rattle.std.proofs.Common.{inl}
use Rattle.kpn_execute.proofs.Written.{written, no_memory}
use Rattle.kpn_execute.proofs.execution.tell_alone.Goals as goal

pub returns-in_default : goal.returns-in_default
returns-in_default g c = written c.say_refused.ensures (inl no_memory)
