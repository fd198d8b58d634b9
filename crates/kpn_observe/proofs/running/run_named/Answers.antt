-- The machine comes back as it was opened.
use Rattle.std.proofs.Common.{subst}
use Rattle.kpn_machine.specs.MachineView.{MachineView}
use Rattle.kpn_run.specs.Refusals.{LacksMemory}
use Rattle.kpn_observe.proofs.running.run_named.Goals as goal

pub returns-in-Err-clause-failed : goal.returns-in-Err-clause-failed
returns-in-Err-clause-failed g c = subst (λ (s : MachineView). LacksMemory g.B.Body.card s.network c.no_memory.result) c.in-Err.ensures.back c.no_memory.ensures
