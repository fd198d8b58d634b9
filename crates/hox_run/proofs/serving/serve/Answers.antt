-- A network that was prepared is run; a description of which there is none is refused.
use Rattle.kpn_model.specs.Network.{family_of}
use Rattle.hox_run.proofs.Served.{refused, told_served}
use Rattle.hox_run.proofs.serving.serve.Goals as goal

pub returns-in-Ok : goal.returns-in-Ok
returns-in-Ok g c = record {
  served = told_served (family_of g.K.Kinds.start g.K.Kinds.answer_of) c.args.request.now c.in-Ok.net _ c.in-Ok.ensures.served c.serve_prepared.ensures;
  taken = c.in-Ok.ensures.taken;
}

pub returns-in-Err : goal.returns-in-Err
returns-in-Err g c = record {
  served = refused (family_of g.K.Kinds.start g.K.Kinds.answer_of) c.args.request.now c.in-Err.fault c.in-Err.ensures.served;
  taken = c.in-Err.ensures.taken;
}
