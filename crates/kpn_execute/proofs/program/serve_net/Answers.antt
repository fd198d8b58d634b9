-- What is written of a network depends on the choice.
use Rattle.std.proofs.Common.{refl}
use Rattle.kpn_execute.proofs.Written.{written, written_of}
use Rattle.kpn_execute.proofs.program.serve_net.Goals as goal

pub returns-in-Check : goal.returns-in-Check
returns-in-Check g c = rw c.in-Check.is (written c.say_checked.ensures (refl, refl))

pub returns-in-Run : goal.returns-in-Run
returns-in-Run g c = rw c.in-Run.is (written_of (λ s t told. told) c.execute_standard.ensures)
