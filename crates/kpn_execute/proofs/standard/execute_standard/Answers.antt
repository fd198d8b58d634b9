-- Memory for the bodies was refused, or they were made and the network ran.
use Rattle.std.proofs.Common.{inl, inr}
use Rattle.kpn_execute.proofs.Written.{written, written_of, no_memory}
use Rattle.kpn_execute.proofs.standard.execute_standard.Goals as goal

pub returns-in_default : goal.returns-in_default
returns-in_default g c = written c.say_refused.ensures (inl no_memory)

pub returns-in-Ok-make_and_execute : goal.returns-in-Ok-make_and_execute
returns-in-Ok-make_and_execute g c = written_of (λ s t told. inr told) c.in-Ok-make_and_execute.ensures.ok

pub returns : goal.returns
returns g c = rw (← c.in-Err.ensures.err) (written c.say_refused-in-Err.ensures (inl no_memory))
