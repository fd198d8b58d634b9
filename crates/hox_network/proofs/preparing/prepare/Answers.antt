-- What comes of a network that was loaded, or of a description that was refused.
use Rattle.std.proofs.Common.{Ok, Err, refl}
use Rattle.hox_network.proofs.preparing.prepare.Goals as goal

pub returns-in-Ok : goal.returns-in-Ok
returns-in-Ok g c = record {
  served = record { loaded = Ok c.in-Ok.net; loads = c.in-Ok.ensures.loads; failed = c.in-Ok.ensures.failed; comes = c.prepare_net.ensures };
  taken = c.in-Ok.ensures.source.taken;
}

pub returns-in-Err : goal.returns-in-Err
returns-in-Err g c = record {
  served = record { loaded = Err c.in-Err.refused.fault; loads = c.in-Err.ensures.loads; failed = c.in-Err.ensures.failed; comes = refl };
  taken = c.in-Err.ensures.source.taken;
}
