-- The machine is the one that was closed.
use Rattle.std.proofs.Common.{◌∙◌, ap, subst}
use Rattle.kpn_model.specs.Network.{Network}
use Rattle.kpn_model.specs.Families.{family}
use Rattle.kpn_machine.specs.MachineView.{MachineView}
use Rattle.kpn_run.specs.Runs.{IsFinish}
use Rattle.kpn_run.proofs.running.finish_of.Goals as goal

pub returns : goal.returns
returns g c =
    subst (λ (n : Network). IsFinish (family g.K.Kinds) n c.in-Some.finish) (ap (λ (m : MachineView). m.network) c.in-Some.ensures.0 ∙ c.requires.closed.network) c.end.ensures.finish
