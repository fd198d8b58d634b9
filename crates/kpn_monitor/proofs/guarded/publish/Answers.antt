-- The history is published with the phase of its end.
use Rattle.std.proofs.Common.{rules}
use Rattle.kpn_monitor.proofs.guarded.publish.Goals as goal

pub returns-clause-published : goal.returns-clause-published
returns-clause-published g c = search rules
