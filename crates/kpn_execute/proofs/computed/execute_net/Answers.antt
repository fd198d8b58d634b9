-- The bodies were made and the network ran, or memory for them was refused.
use Rattle.std.proofs.Common.{inl, inr}
use Rattle.kpn_execute.proofs.Written.{written, written_of, no_memory}
use Rattle.kpn_execute.proofs.computed.execute_net.Goals as goal

pub returns-in-Ok : goal.returns-in-Ok
returns-in-Ok g c = written_of (λ s t told. inr told) c.execute.ensures

pub returns-in-Err : goal.returns-in-Err
returns-in-Err g c = written c.say_refused.ensures (inl no_memory)
