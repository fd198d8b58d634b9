-- The law of feeding, for this flow.
use Rattle.kpn_model.specs.Network.{family_of}
use Rattle.kpn_flow.proofs.Untaken.{one_run}
use Rattle.kpn_flow.proofs.flow.Flow.assure_one_run.Goals as goal

pub returns-clause-one_run : goal.returns-clause-one_run
returns-clause-one_run g c =
    rw (← c.self.view_is)
    (one_run (family_of g.B.Kinds.Kinds.start g.B.Kinds.Kinds.answer_of) c.self.inside.net c.self.inside.inputs.items c.self.inside.outputs.items c.self.inside.core.store.state c.self.invariant.0.ends)
