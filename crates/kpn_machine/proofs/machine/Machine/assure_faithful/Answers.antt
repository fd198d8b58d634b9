-- This follows from the machine's invariant.
use denote.Param.Send.{sendable}
use Rattle.kpn_machine.proofs.Sound.{sound_faithful}
use Rattle.kpn_model.specs.Network.{family_of}
use Rattle.kpn_machine.proofs.machine.Machine.assure_faithful.Goals as goal

pub returns : goal.returns
returns g c =
    let kinds = g.B.Kinds.Kinds in
    record { faithful = rw (← c.self.view_is) (sound_faithful kinds.signature _ _ _ c.assure_valid.ensures.valid (c.valid_runs.ensures.within kinds.signature (family_of kinds.start kinds.answer_of)) c.typed_runs.ensures c.self.invariant.0) }

pub assure_valid-requires : goal.assure_valid-requires
assure_valid-requires g c = search sendable

pub typed_runs-requires : goal.typed_runs-requires
typed_runs-requires g c = search sendable
